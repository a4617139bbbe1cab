-- Documents that are loaded and still to be handed out.
use Rattle.std.specs.Prelude.{◌≡◌, ◌∷◌, ◌++◌, Bool, List, None, Option, Some, [], false, true, ℕ}
use Rattle.yaml_base.specs.PlainDocument.{PlainDocument}
use Rattle.yaml_documents.specs.FirstDocuments.{AreFirstDocumentsOf}

-- those that a loader has left, if there is one
abbrev pub left_in : Option (List PlainDocument) → List PlainDocument
left_in None = []
left_in (Some documents) = documents

-- no document comes any more: none is pending, and the text has ended
abbrev pub is_over : Bool → List PlainDocument → Bool
is_over true [] = true
is_over _ _ = false

-- With each of the pending documents that is handed out those so far are the first of the text, unless it is the last
-- of all, which may be cut off.
abbrev pub ComeNext : List ℕ → Bool → List PlainDocument → List PlainDocument → Type 0
ComeNext text ended handed [] = Unit {0}
ComeNext text ended handed (d ∷ pending) =
    (is_over ended pending ≡ false → AreFirstDocumentsOf text (handed ++ d ∷ []))
    × ComeNext text ended (handed ++ d ∷ []) pending

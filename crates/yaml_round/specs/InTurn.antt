-- How several values that were written come back from one text, document by document.
use Rattle.std.specs.Prelude.{◌≡◌, ℕ, Bool, true, IsTrue, List, [], ◌∷◌, Some, Result, Ok}
use Rattle.std.specs.List.{All}
use Rattle.yaml_base.specs.PlainDocument.{PlainDocument}
use Rattle.yaml_base.specs.declared.error.Cause.{Cause}
use Rattle.yaml_documents.specs.TextDocuments.{AreDocumentsOf}
use Rattle.yaml_read.specs.Reads.{DocumentGives}
use Rattle.yaml_read.specs.TreeReader.{PlainLimits}
use Rattle.yaml_shape.specs.Held.{IsHeld, is_table}
use Rattle.yaml_shape.specs.PlainData.{PlainData}
use Rattle.yaml_shape.specs.PlainShape.{PlainShape, shape_at}
use Rattle.yaml_types.specs.Start.{Start}
use Rattle.serde_yaml.specs.Printed.{HasText}
use Rattle.serde_yaml.specs.TypedReads.{Makes}
use Rattle.serde_yaml.specs.WrittenDocuments.{TypeWritesAll}

-- Values whose data the view shows were written, a document for each, and this is their text. It is so of each text
-- that `documents_to_string` answers, by its clauses `text`, `kept`, `table` and `held`.
pub record IsTextOfAll (start : Start) {T : Type 0} (view : T → PlainData) (Kept : T → Type 0)
    (unwritten : T → List ℕ → Type 0) (xs : List T) (text : List ℕ) : Type 0 where
  pub printed : HasText (TypeWritesAll start view unwritten xs) text
  pub kept : All Kept xs
  pub table : IsTrue (is_table start.0)
  pub held : All (λ x. IsHeld (view x)) xs

-- whatever the type makes of what is read of the document, under the type's shape, is a value equal to this one
abbrev pub MakesEqual : PlainLimits → Start → {T : Type 0} → (built : PlainData → T → Type 0)
    → (refused : PlainData → List ℕ → Type 0) → (eq : T → T → Bool) → T → PlainDocument → Type 0
MakesEqual limits start {T} built refused eq x document =
    (s : PlainShape) (read : Result PlainData Cause) (given : Result T Cause) → shape_at start.0 start.1 ≡ Some s
    → DocumentGives limits start.0 s document read → Makes built refused read given
    → (y : T) × (given ≡ Ok y) × (eq x y ≡ true)

-- there is one document for each of the values, in order, and it makes an equal one
abbrev pub MakeEqual : PlainLimits → Start → {T : Type 0} → (built : PlainData → T → Type 0)
    → (refused : PlainData → List ℕ → Type 0) → (eq : T → T → Bool) → List T → List PlainDocument → Type 0
MakeEqual limits start built refused eq [] [] = Unit {0}
MakeEqual limits start built refused eq (x ∷ xs) (document ∷ documents) =
    MakesEqual limits start built refused eq x document × MakeEqual limits start built refused eq xs documents
MakeEqual limits start built refused eq _ _ = ⊥

-- The documents of the text, whichever call hands them out, are as many as the values, and each makes an equal one.
abbrev pub GivesEqualInTurn : PlainLimits → Start → {T : Type 0} → (built : PlainData → T → Type 0)
    → (refused : PlainData → List ℕ → Type 0) → (eq : T → T → Bool) → List T → (text : List ℕ) → Type 0
GivesEqualInTurn limits start built refused eq xs text =
    (documents : List PlainDocument) → AreDocumentsOf text documents
    → MakeEqual limits start built refused eq xs documents

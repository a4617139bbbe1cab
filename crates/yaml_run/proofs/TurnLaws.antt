-- What is told of documents one after another is what is told of all.
use Rattle.std.proofs.Common.{◌≡◌, false, ℕ, List, [], ◌∷◌, ◌++◌, Some, refl, sym, ap, subst, ◌∙◌}
use Rattle.std.proofs.lemmas.List.{append-nil, append_assoc}
use Rattle.yaml_base.specs.PlainDocument.{PlainDocument}
use Rattle.yaml_read.specs.TreeReader.{PlainLimits}
use Rattle.yaml_shape.specs.PlainShape.{PlainShape, shape_at}
use Rattle.serde_yaml.specs.PlainStream.{PlainStream, document_alone, items_left}
use Rattle.yaml_run.proofs.StreamWalks.{Leaves, leaves-all, leaves-next, leaves-none}
use Rattle.yaml_run.specs.Turns.{in_all, AreToldInTurn, IsToldOf}
use Rattle.yaml_run.specs.Turns.AreToldInTurn.{no_more, one_more}
use Rattle.yaml_run.specs.declared.audience.Audience.{Audience}
use Rattle.yaml_run.specs.declared.status.Status.{Status}
use Rattle.yaml_run.specs.declared.status.Status.TheVariants as status

-- endings in all, taken in one order or the other
in_all-assoc : (a b c : Status) → in_all (in_all a b) c ≡ in_all a (in_all b c)
in_all-assoc status.Read b c = refl
in_all-assoc status.Fault b c = refl
in_all-assoc status.Refused b c = refl
in_all-assoc status.OutOfMemory b c = refl
in_all-assoc status.ReadFailed b c = refl
in_all-assoc status.WriteFailed b c = refl

in_all-read : (a : Status) → in_all a status.Read ≡ a
in_all-read status.Read = refl
in_all-read status.Fault = refl
in_all-read status.Refused = refl
in_all-read status.OutOfMemory = refl
in_all-read status.ReadFailed = refl
in_all-read status.WriteFailed = refl

module _ (audience : Audience) (limits : PlainLimits) (table : List PlainShape) where
  -- what was told ends so, and what is told of the documents that are left, put behind it, is told of all
  abbrev pub Follows : PlainShape → (all : List PlainDocument) → (ended : Status) → (text : List ℕ)
      → (left : List PlainDocument) → Type 0
  Follows s all ended text left = (others : Status) (lines : List ℕ)
      → AreToldInTurn audience limits table s left others lines
      → AreToldInTurn audience limits table s all (in_all ended others) (text ++ lines)

  -- so it is where the documents of a stream are read in turn
  abbrev pub Turning : (id : ℕ) → (all now : PlainStream) → (ended : Status) → (text : List ℕ) → Type 0
  Turning id all now ended text = (s : PlainShape) → shape_at table id ≡ Some s → all.is_document ≡ false
      → Leaves (Follows s all.documents ended text) now

  -- at first
  pub turning-starts : (id : ℕ) (all : PlainStream) → Turning id all all status.Read []
  turning-starts id all = λ s at many.
      leaves-all (Follows s all.documents status.Read []) all many (λ others lines h. h)

  told_more : (s : PlainShape) (all : List PlainDocument) (ended one : Status) (text line : List ℕ)
      (d : PlainDocument) (ds : List PlainDocument) → IsToldOf audience limits table s d one line
      → Follows s all ended text (d ∷ ds) → Follows s all (in_all ended one) (text ++ (line ++ 10 ∷ [])) ds
  told_more s all ended one text line d ds told f = λ others lines h.
      subst (λ e. AreToldInTurn audience limits table s all e ((text ++ (line ++ 10 ∷ [])) ++ lines))
      (sym (in_all-assoc ended one others))
      (subst (λ t. AreToldInTurn audience limits table s all (in_all ended (in_all one others)) t)
      (sym (append_assoc text (line ++ 10 ∷ []) lines ∙ ap (λ l. text ++ l) (append_assoc line (10 ∷ []) lines)))
      (f (in_all one others) (line ++ 10 ∷ lines) (one_more d ds one others line lines told h)))

  -- with each of them
  pub turning-next : (id : ℕ) (all old given new : PlainStream) (ended one : Status) (text line : List ℕ)
      → items_left old ≡ given ∷ items_left new
      → ((s : PlainShape) (d : PlainDocument) → shape_at table id ≡ Some s → given ≡ document_alone d
      → IsToldOf audience limits table s d one line) → Turning id all old ended text
      → Turning id all new (in_all ended one) (text ++ (line ++ 10 ∷ []))
  turning-next id all old given new ended one text line steps told t = λ s at many.
      leaves-next (Follows s all.documents ended text)
      (Follows s all.documents (in_all ended one) (text ++ (line ++ 10 ∷ []))) given old new steps
      (λ d ds is f. told_more s all.documents ended one text line d ds (told s d at is) f) (t s at many)

  -- and at last
  pub turning-ends : (id : ℕ) (all now : PlainStream) (ended : Status) (text : List ℕ) → items_left now ≡ []
      → Turning id all now ended text → (s : PlainShape) → shape_at table id ≡ Some s → all.is_document ≡ false
      → AreToldInTurn audience limits table s all.documents ended text
  turning-ends id all now ended text none t = λ s at many.
      let f = leaves-none (Follows s all.documents ended text) now none (t s at many) in
      subst (λ e. AreToldInTurn audience limits table s all.documents e text) (in_all-read ended)
      (subst (λ l. AreToldInTurn audience limits table s all.documents (in_all ended status.Read) l) (append-nil text)
      (f status.Read [] no_more))

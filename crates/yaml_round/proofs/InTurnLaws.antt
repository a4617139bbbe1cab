-- What is read of documents in turn.
use Rattle.std.proofs.Common.{◌≡◌, ◌<◌, ◌≤◌, ◌+◌, ◌∙◌, ℕ, suc, List, [], ◌∷◌, length, drop, Some, Ok, Result}
use Rattle.std.proofs.Common.{Bool, true, arith, get_or, refl, sym, ap, subst, drop-cons}
use Rattle.std.proofs.lemmas.Option.{slice_get-get_or}
use Rattle.yaml_base.specs.PlainDocument.{PlainDocument}
use Rattle.yaml_base.specs.declared.error.Cause.{Cause}
use Rattle.yaml_read.specs.Reads.{DocumentGives}
use Rattle.yaml_read.specs.TreeReader.{PlainLimits}
use Rattle.yaml_shape.specs.PlainData.{PlainData}
use Rattle.yaml_shape.specs.PlainShape.{PlainShape, any_shape, shape_at}
use Rattle.yaml_types.specs.Start.{Start, IsClosed}
use Rattle.serde_yaml.specs.Printed.{HasText, printed_as}
use Rattle.serde_yaml.specs.TypedReads.{Makes}
use Rattle.serde_yaml.specs.WrittenDocuments.{TypeWritesAll}
use Rattle.yaml_round.specs.InTurn.{MakeEqual, MakesEqual}
use Rattle.yaml_round.proofs.DocumentsReturn.{wrote_all}

-- the value at a place, before those behind it
pub from_place : {T : Type 0} (xs : List T) (i : ℕ) (x : T) → i < length xs → x ≡ get_or xs i x
    → drop i xs ≡ x ∷ drop (i + 1) xs
from_place xs i x within is =
    let next : suc i ≡ i + 1 = omega arith in
    drop-cons xs i x within ∙ (ap (λ y. y ∷ drop (suc i) xs) (sym is) ∙ ap (λ k. x ∷ drop k xs) next)

-- values that were written are of a type with a schema
pub few_shapes : {start : Start} {T : Type 0} {view : T → PlainData} {unwritten : T → List ℕ → Type 0} {xs : List T}
    {text : List ℕ} → HasText (TypeWritesAll start view unwritten xs) text → length start.0 ≤ 4096
few_shapes (printed_as events writes printed) = (wrote_all events writes refl).valid.few

module _ {T : Type 0} (limits : PlainLimits) (start : Start) (built : PlainData → T → Type 0)
    (refused : PlainData → List ℕ → Type 0) (eq : T → T → Bool) where
  -- what is made of a document is equal, where each value that is made is
  pub is_made_equal : (x : T) (document : PlainDocument) (table : List PlainShape) (id : ℕ)
      (read : Result PlainData Cause) (given : Result T Cause) → table ≡ start.0 → id ≡ start.1 → IsClosed start
      → MakesEqual limits start built refused eq x document
      → ((s : PlainShape) → shape_at table id ≡ Some s → DocumentGives limits table s document read)
      → Makes built refused read given → (y : T) × (given ≡ Ok y) × (eq x y ≡ true)
  is_made_equal x document table id read given p q closed equal gives makes =
      let s : PlainShape = get_or start.0 start.1 any_shape in
      let at : shape_at start.0 start.1 ≡ Some s = slice_get-get_or start.0 start.1 any_shape closed.within in
      let here : shape_at table id ≡ Some s =
      ap (λ t. shape_at t id) p ∙ (ap (shape_at start.0) q ∙ at) in
      equal s read given at (subst (λ t. DocumentGives limits t s document read) p (gives s here)) makes

  -- the values from a place on
  pub in_turn : (xs : List T) (i : ℕ) (x : T) (found : PlainDocument) (old left : List PlainDocument) → i < length xs
      → x ≡ get_or xs i x → old ≡ found ∷ left → MakeEqual limits start built refused eq (drop i xs) old
      → MakesEqual limits start built refused eq x found
      × MakeEqual limits start built refused eq (drop (i + 1) xs) left
  in_turn xs i x found old left within is items all =
      subst (λ ds. MakeEqual limits start built refused eq (x ∷ drop (i + 1) xs) ds) items
      (subst (λ ys. MakeEqual limits start built refused eq ys old) (from_place xs i x within is) all)

  -- a value for which no document is left
  pub none_for : (xs : List T) (i : ℕ) (x : T) (old : List PlainDocument) → i < length xs → x ≡ get_or xs i x
      → old ≡ [] → MakeEqual limits start built refused eq (drop i xs) old → ⊥
  none_for xs i x old within is none all =
      subst (λ ds. MakeEqual limits start built refused eq (x ∷ drop (i + 1) xs) ds) none
      (subst (λ ys. MakeEqual limits start built refused eq ys old) (from_place xs i x within is) all)

-- A set that members are put into: those so far, one after another, and those behind, from the last on.
use Rattle.std.proofs.Common.{◌≡◌, List, [], ◌∷◌, ◌++◌, refl, sym, ◌∙◌, ap}
use Rattle.std.specs.declared.cmp.Ordering.{Ordering}
use Rattle.std.specs.Cmp.{IsTotalOrder}
use Rattle.std.specs.List.Sorted.{IsStrictlySortedBy}
use Rattle.std.specs.BTreeSet.{insert_key}
use Rattle.yaml_shape.specs.PlainData.{PlainData, seq_data}
use Rattle.yaml_types.specs.BuiltParts.{BuiltSeq}
use Rattle.yaml_types.specs.Sets.{BuiltSet, inserted_all}
use Rattle.yaml_types.proofs.SortedLaws.{set_of_sorted}

module _ {T : Type 0} (cmp : T → T → Ordering) where
  -- the members behind, put in once those in front are, give what all do
  abbrev pub AreFront : (all front behind : List T) → Type 0
  AreFront all front behind = inserted_all cmp (inserted_all cmp [] front) behind ≡ inserted_all cmp [] all

  pub inserted_last : (before xs : List T) (x : T)
      → inserted_all cmp before (xs ++ x ∷ []) ≡ insert_key cmp (inserted_all cmp before xs) x
  inserted_last before [] x = refl
  inserted_last before (y ∷ xs) x = inserted_last (insert_key cmp before y) xs x

  -- one more is behind
  pub front_falls : (all left behind more front : List T) (x : T) → left ≡ front ++ x ∷ []
      → more ≡ x ∷ behind → AreFront all left behind → AreFront all front more
  front_falls all left behind more front x next put h =
      ap (inserted_all cmp (inserted_all cmp [] front)) put
      ∙ (ap (λ l. inserted_all cmp l behind) (sym (inserted_last [] front x))
      ∙ (ap (λ l. inserted_all cmp (inserted_all cmp [] l) behind) (sym next) ∙ h))

  -- those in front, then the last of them, and then the members behind are all
  pub put_between : (all left behind with whole front first : List T) (x : T)
      → left ≡ front ++ x ∷ [] → first ≡ inserted_all cmp [] front → with ≡ insert_key cmp first x
      → whole ≡ inserted_all cmp with behind → AreFront all left behind → whole ≡ inserted_all cmp [] all
  put_between all left behind with whole front first x next made put others h =
      others ∙ (ap (λ l. inserted_all cmp l behind) (put ∙ (ap (λ l. insert_key cmp l x) made
      ∙ (sym (inserted_last [] front x) ∙ ap (inserted_all cmp []) (sym next)))) ∙ h)

  -- none is in front
  pub none_in_front : (all left behind : List T) → IsTotalOrder cmp → IsStrictlySortedBy cmp behind → left ≡ []
      → AreFront all left behind → behind ≡ inserted_all cmp [] all
  none_in_front all left behind total s none h =
      sym (set_of_sorted cmp total behind s)
      ∙ (ap (λ l. inserted_all cmp (inserted_all cmp [] l) behind) (sym none) ∙ h)

-- the set of a sequence's elements, put in one after another
pub set_built : {T : Type 0} (cmp : T → T → Ordering) (built : PlainData → T → Type 0) (xs members : List T)
    → members ≡ inserted_all cmp [] xs → (d : PlainData) → BuiltSeq built d xs → BuiltSet cmp built d members
set_built cmp built xs members is (seq_data ds) h = (xs, h, is)
set_built cmp built xs members is _ h = absurd h

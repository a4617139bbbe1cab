-- Sets are equal again where their elements are.
use Rattle.std.specs.Prelude.{◌≡◌, List, [], ◌∷◌, ◌++◌, Bool, true, refl}
use Rattle.std.proofs.Common.{sym, ◌∙◌, ap, subst, append_assoc, append-nil}
use Rattle.std.specs.declared.cmp.Ordering.{Ordering}
use Rattle.std.specs.declared.cmp.Ordering.TheVariants.{Less, Equal, Greater}
use Rattle.std.specs.Ordering.{eq_by_cmp, ordering_reverse, match_ordering}
use Rattle.std.specs.Cmp.{IsTotalOrder, Equal-is}
use Rattle.std.specs.Cmp.Lexicographic.{pointwise}
use Rattle.std.specs.List.{AllByRecursion}
use Rattle.std.specs.List.Sorted.{IsStrictlySortedBy}
use Rattle.std.specs.BTreeSet.{BTreeSet, insert_key}
use Rattle.std.proofs.lemmas.Map.Keys.{sorted_head, sorted_tail}
use Rattle.yaml_tree.specs.TakeOut.{from_false, and_left, and_right}
use Rattle.yaml_shape.specs.EqualData.{EqualData}
use Rattle.yaml_shape.specs.PlainData.{PlainData, seq_data}
use Rattle.yaml_types.specs.ReturnLaws.{AreReturned, seq_returned}
use Rattle.yaml_types.specs.Sets.{inserted_all, BuiltSet, SetKeeps}
use Rattle.yaml_types.specs.WrittenParts.{seq_written}

module _ {T : Type 0} (cmp : T → T → Ordering) where
  -- each element of the first list is below each of the second
  abbrev pub AreBelow : List T → List T → Type 0
  AreBelow before after = AllByRecursion (λ p. AllByRecursion (λ q. cmp p q ≡ Less) after) before

  pub below_tail : (before after : List T) (x : T) → AreBelow before (x ∷ after) → AreBelow before after
  below_tail [] after x h = tt
  below_tail (p ∷ before) after x h = (h.0.1, below_tail before after x h.1)

  pub below_push : (before after : List T) (p : T) → AreBelow before after → AllByRecursion (λ q. cmp p q ≡ Less) after
      → AreBelow (before ++ p ∷ []) after
  below_push [] after p h a = (a, tt)
  below_push (q ∷ before) after p h a = (h.0, below_push before after p h.1 a)

  -- an element above all others goes behind them
  pub inserted_last : (before : List T) (k : T) → AllByRecursion (λ p. cmp k p ≡ Greater) before
      → insert_key cmp before k ≡ before ++ k ∷ []
  inserted_last [] k h = refl
  inserted_last (p ∷ before) k h =
      ap (λ o. match_ordering o (k ∷ p ∷ before) (p ∷ before) (p ∷ insert_key cmp before k)) h.0
      ∙ ap (λ l. p ∷ l) (inserted_last before k h.1)

  module _ (total : IsTotalOrder cmp) where
    -- an element equal to another is above what that is above
    pub above : (before after : List T) (x k : T) → cmp x k ≡ Equal → AreBelow before (x ∷ after)
        → AllByRecursion (λ p. cmp k p ≡ Greater) before
    above [] after x k same h = tt
    above (p ∷ before) after x k same h = (
      sym (total.congr x k p same) ∙ (total.antisymm x p ∙ ap ordering_reverse h.0.0),
      above before after x k same h.1,
    )

    -- and below what that is below
    pub below : (after : List T) (x k : T) → cmp x k ≡ Equal → AllByRecursion (λ q. cmp x q ≡ Less) after
        → AllByRecursion (λ q. cmp k q ≡ Less) after
    below [] x k same h = tt
    below (q ∷ after) x k same h = (sym (total.congr x k q same) ∙ h.0, below after x k same h.1)

    module _ (eq : T → T → Bool) (ties : (x y : T) → eq x y ≡ eq_by_cmp cmp x y) where
      -- elements equal to some that ascend are put in one behind the other
      inserted_equal : (members xs before : List T) → IsStrictlySortedBy cmp members → AreBelow before members
          → pointwise eq members xs ≡ true → inserted_all cmp before xs ≡ before ++ xs
      inserted_equal [] [] before s low e = sym (append-nil before)
      inserted_equal [] (y ∷ xs) before s low e = from_false e
      inserted_equal (x ∷ members) [] before s low e = from_false e
      inserted_equal (x ∷ members) (y ∷ xs) before s low e =
          let tied : cmp x y ≡ Equal = (Equal-is (cmp x y)).0 (sym (ties x y) ∙ and_left _ _ e) in
          ap (λ l. inserted_all cmp l xs) (inserted_last before y (above before members x y tied low))
          ∙ (inserted_equal members xs (before ++ y ∷ []) (sorted_tail cmp x members s)
          (below_push before members y (below_tail before members x low)
          (below members x y tied (sorted_head cmp x members s)))
          (and_right (eq x y) _ e)
          ∙ append_assoc before (y ∷ []) xs)

      -- of equal data an equal set is built
      pub set_returned : (kept : T → Type 0) (written : T → PlainData) (built : PlainData → T → Type 0)
          → AreReturned kept written built eq → (s t : BTreeSet T) (d : PlainData) → SetKeeps cmp kept s
          → EqualData (seq_written written s.keys) d → BuiltSet cmp built d t.keys
          → pointwise eq s.keys t.keys ≡ true
      set_returned kept written built law s t (seq_data ds) k e b =
          let same = seq_returned kept written built eq law s.keys b.0 (seq_data ds) k.0 e b.1 in
          subst (λ l. pointwise eq s.keys l ≡ true)
          (sym (b.2 ∙ inserted_equal s.keys b.0 [] k.1 tt same)) same
      set_returned kept written built law s t _ k e b = absurd b

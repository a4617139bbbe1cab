-- Anchors in order, by their names and then by their places: those in front of an alias come first.
use Rattle.std.specs.Prelude.{◌≡◌, ◌+◌, ◌≤◌}
use Rattle.std.specs.Cmp.{IsTotalOrder, nat_cmp_is, on_total}
use Rattle.std.specs.Ordering.{is_lt, is_eq, nat_cmp, ordering_index, ordering_then}
use Rattle.std.specs.declared.cmp.Ordering.{Ordering}
use Rattle.std.specs.declared.cmp.Ordering.TheVariants.{Less, Equal, Greater}
use Rattle.std.proofs.lemmas.Cmp.{nat_cmp_total, then_total}
use Rattle.std.proofs.lemmas.List.Sorted.{searchable_from_sorted}
use Rattle.std.proofs.lemmas.Map.Text.{is_eq-slice_cmp}
use Rattle.yaml_load.proofs.Words.{ℕ, List, length, get_or, refl, sym, ◌∙◌, ap, arith, true, false, nat_lt, inl, inr}
use Rattle.yaml_load.proofs.Words.{slice_cmp, nat_list_cmp_total, IsPartitionedBy, bytes_eq, cases_Bool, cases_eq}
use Rattle.yaml_load.proofs.Words.{cases_lt, le-ltb, lt-ltb, ltb-true, get_or_default}
use Rattle.yaml_load.specs.inner.AnchorOrder.{AllBefore, NoneBefore, anchor_order, IsInOrder}

abbrev pub Named : Type 0
Named = List ℕ × ℕ

pub order_total : IsTotalOrder anchor_order
order_total = then_total (on_total (λ (x : Named). x.0) nat_list_cmp_total)
    (on_total (λ (x : Named). x.1) nat_cmp_total)

-- what is in front of something that is less is less too
lower : (r s : Ordering) → ordering_index r ≤ ordering_index s → is_lt s ≡ true → is_lt r ≡ true
lower Less s l h = refl
lower _ Less l h = absurd (omega arith)
lower _ _ l h = absurd cc

pub parted : (named : List Named) (alias : Named) → IsInOrder named
    → IsPartitionedBy (λ x. is_lt (anchor_order x alias)) named
parted named alias sorted i j d l w h =
    lower (anchor_order (get_or named i d) alias) (anchor_order (get_or named j d) alias)
    (searchable_from_sorted order_total (λ (x : Named). x) named alias sorted i j d l w) h

module _ (named : List Named) (alias : Named) (sorted : IsInOrder named) (at : ℕ) (y : Named)
    (within : true ≡ nat_lt at (length named)) (here : y ≡ get_or named at y) where
  there : (d : Named) → get_or named at d ≡ y
  there d = get_or_default named at d y (ltb-true at (length named) (sym within)) ∙ sym here

  -- all up to one that is in front of the alias are in front of it
  pub all_before : is_lt (anchor_order y alias) ≡ true → AllBefore named alias (at + 1)
  all_before before k d from to =
      parted named alias sorted k at d (omega arith) (ltb-true at (length named) (sym within))
      (ap (λ (x : Named). is_lt (anchor_order x alias)) (there d) ∙ before)

  -- none from one that is not in front of the alias is in front of it
  pub none_before : is_lt (anchor_order y alias) ≡ false → NoneBefore named alias at
  none_before behind k d from to = elim (cases_Bool (is_lt (anchor_order (get_or named k d) alias))) [
    | inr no_ ↦ no_
    | inl yes_ ↦ absurd (let front = sym (ap (λ (x : Named). is_lt (anchor_order x alias)) (there d) ∙ behind)
        ∙ parted named alias sorted at k d from to yes_ in cc)
  ]

-- an order that is equal
is_equal : (r : Ordering) → is_eq r ≡ true → r ≡ Equal
is_equal Equal e = refl
is_equal _ e = absurd cc

number_order : (m n : ℕ) → is_lt (nat_cmp m n) ≡ nat_lt m n
number_order m n = elim (cases_lt m n) [
  | inl below ↦ sym (ap is_lt (nat_cmp_is m n Less below)) ∙ sym (lt-ltb m n below)
  | inr above ↦ elim (cases_eq m n) [
    | inl same ↦ sym (ap is_lt (nat_cmp_is m n Equal same)) ∙ sym (le-ltb m n above)
    | inr other ↦ sym (ap is_lt (nat_cmp_is m n Greater (omega arith))) ∙ sym (le-ltb m n above)
  ]
]

-- anchors with one name stand in the order of their places
pub same_names : (x y : Named) → bytes_eq x.0 y.0 ≡ true → is_lt (anchor_order x y) ≡ nat_lt x.1 y.1
same_names x y h =
    ap (λ o. is_lt (ordering_then o (nat_cmp x.1 y.1)))
    (is_equal (slice_cmp nat_cmp x.0 y.0) (is_eq-slice_cmp x.0 y.0 ∙ h))
    ∙ number_order x.1 y.1

-- those with other names in that of their names
then_other : (r s : Ordering) → is_eq r ≡ false → is_lt (ordering_then r s) ≡ is_lt r
then_other Equal s h = absurd cc
then_other _ s h = refl

pub other_names : (x y : Named) → bytes_eq x.0 y.0 ≡ false
    → is_lt (anchor_order x y) ≡ is_lt (slice_cmp nat_cmp x.0 y.0)
other_names x y h = then_other (slice_cmp nat_cmp x.0 y.0) (nat_cmp x.1 y.1) (is_eq-slice_cmp x.0 y.0 ∙ h)

-- The greatest place of an anchor in front of an alias: among anchors in order, or in any, and among those of events.
use Rattle.std.specs.Prelude.{◌≡◌, ◌+◌, ◌<◌, ◌≤◌, ◌∷◌, ◌&&◌, ◌++◌, ◌-◌}
use Rattle.std.specs.Ordering.{is_lt, nat_cmp}
use Rattle.std.proofs.lemmas.List.Sorted.{All-permutation, IsPermutation-sym, ranks_by, sorted_far}
use Rattle.yaml_load.proofs.Words.{ℕ, zero, suc, List, [], length, get_or, refl, sym, ◌∙◌, ap, subst, arith, Bool, true}
use Rattle.yaml_load.proofs.Words.{false, cond, nat_lt, Option, Some, None, inl, inr, All, slice_cmp, IsPermutation}
use Rattle.yaml_load.proofs.Words.{bytes_decides, IsPartitionPoint, bytes_eq, cases_Bool, cases_lt, ltb-false, ltb-true}
use Rattle.yaml_load.proofs.Words.{get_or_default, All-tail, greater, number_below, greatest_below, lt-ltb, All-cons}
use Rattle.yaml_load.proofs.Words.{anchor_at, Input, anchor_of, anchors_in, find_in}
use Rattle.yaml_load.specs.inner.AnchorOrder.{anchor_order, IsInOrder}
use Rattle.yaml_load.proofs.AnchorOrders.{Named, order_total, same_names, other_names}

-- no number is there, or none greater
abbrev AtMost : Option ℕ → Option ℕ → Type 0
AtMost None o = o ≡ None
AtMost (Some n) None = Unit {0}
AtMost (Some n) (Some m) = m ≤ n

none_at_most : (bound : Option ℕ) → AtMost bound None
none_at_most None = refl
none_at_most (Some n) = tt

first_at_most : (o p : Option ℕ) → AtMost (greater o p) o
first_at_most None p = none_at_most p
first_at_most (Some m) None = omega arith
first_at_most (Some m) (Some n) = omega arith

second_at_most : (o p q : Option ℕ) → AtMost p q → AtMost (greater o p) q
second_at_most None p q h = h
second_at_most (Some m) None q h = rw h tt
second_at_most (Some m) (Some n) None h = tt
second_at_most (Some m) (Some n) (Some k) h = omega arith

both_at_most : (bound o p : Option ℕ) → AtMost bound o → AtMost bound p → AtMost bound (greater o p)
both_at_most None o p h k = rw h k
both_at_most (Some n) None p h k = k
both_at_most (Some n) (Some m) None h k = h
both_at_most (Some n) (Some m) (Some l) h k = omega arith

same_at_most : (o p : Option ℕ) → AtMost o p → AtMost p o → o ≡ p
same_at_most None p h k = sym h
same_at_most (Some n) None h k = k
same_at_most (Some n) (Some m) h k = let e : n ≡ m = omega arith in ap Some e

module _ (alias : Named) where
  abbrev number : Named → Option ℕ
  number x = number_below alias.1 alias.0 x

  abbrev greatest : List Named → Option ℕ
  greatest named = greatest_below alias.1 alias.0 named

  all_at_most : (named : List Named) → All (λ x. AtMost (greatest named) (number x)) named
  all_at_most [] = λ k d l. absurd (omega arith)
  all_at_most (x ∷ named) =
      All-cons (λ (y : Named). AtMost (greatest (x ∷ named)) (number y)) x named
      (first_at_most (number x) (greatest named))
      (λ k d l. second_at_most (number x) (greatest named) _ (all_at_most named k d l))

  greatest_at_most : (bound : Option ℕ) (named : List Named) → All (λ x. AtMost bound (number x)) named
      → AtMost bound (greatest named)
  greatest_at_most bound [] h = none_at_most bound
  greatest_at_most bound (x ∷ named) h =
      both_at_most bound (number x) (greatest named) (h 0 x (omega arith))
      (greatest_at_most bound named (All-tail (λ (y : Named). AtMost bound (number y)) x named h))

  -- the number of one of them is found where none has a greater one
  found_at : (named : List Named) (m : ℕ) (d : Named) (o : Option ℕ) → m < length named → number (get_or named m d) ≡ o
      → All (λ x. AtMost o (number x)) named → greatest named ≡ o
  found_at named m d o l is h =
      same_at_most (greatest named) o (subst (AtMost (greatest named)) is (all_at_most named m d l))
      (greatest_at_most o named h)

  moved_at_most : (named others : List Named) → IsPermutation named others → AtMost (greatest named) (greatest others)
  moved_at_most named others moved =
      greatest_at_most (greatest named) others
      (All-permutation (λ (x : Named). AtMost (greatest named) (number x)) named others moved (all_at_most named))

  number_as : (x : Named) (same in_front : Bool) → bytes_eq x.0 alias.0 ≡ same → nat_lt x.1 alias.1 ≡ in_front
      → number x ≡ cond (same && in_front) (Some x.1) None
  number_as x same in_front s f = rw (s, f)

  number_of_other : (x : Named) → bytes_eq x.0 alias.0 ≡ false → number x ≡ None
  number_of_other x s = rw s

  bounded_by : (n : ℕ) (x : Named) → x.1 ≤ n → AtMost (Some n) (number x)
  bounded_by n x least = elim (cases_Bool (bytes_eq x.0 alias.0)) [
    | inr other ↦ subst (AtMost (Some n)) (sym (number_of_other x other)) tt
    | inl here ↦ elim (cases_Bool (nat_lt x.1 alias.1)) [
      | inl front ↦ subst (AtMost (Some n)) (sym (number_as x true true here front)) least
      | inr back ↦ subst (AtMost (Some n)) (sym (number_as x true false here back)) tt
    ]
  ]

  -- an anchor that stands where the alias belongs, or behind, does not fit
  behind_none : (x : Named) → is_lt (anchor_order x alias) ≡ false → number x ≡ None
  behind_none x h = elim (cases_Bool (bytes_eq x.0 alias.0)) [
    | inl same ↦ number_as x true false same (sym (same_names x alias same) ∙ h)
    | inr other ↦ number_of_other x other
  ]

  module _ (named : List Named) (sorted : IsInOrder named) (at : ℕ)
      (point : IsPartitionPoint (λ x. is_lt (anchor_order x alias) ≡ true)
      (λ x. is_lt (anchor_order x alias) ≡ false) named at) where
    -- nothing stands in front
    pub none_in_front : (1 ≤ at → ⊥) → greatest_below alias.1 alias.0 named ≡ None
    none_in_front first =
        greatest_at_most None named (λ k d l. behind_none (get_or named k d) (point.1 k d (elim (cases_lt k at) [
          | inl below ↦ absurd (first (omega arith))
          | inr above ↦ above
        ]) l))

    module _ (i : ℕ) (y : Named) (last : i + 1 ≡ at) (within : true ≡ nat_lt i (length named))
        (here : y ≡ get_or named i y) where
      inside : i < length named
      inside = ltb-true i (length named) (sym within)

      is : (d : Named) → get_or named i d ≡ y
      is d = get_or_default named i d y inside ∙ sym here

      before : is_lt (anchor_order y alias) ≡ true
      before = subst (λ z. is_lt (anchor_order z alias) ≡ true) (is y) (point.0 i y (omega arith) (omega arith))

      -- no anchor in front is behind the last of them
      earlier : (k : ℕ) (d : Named) → k < at → is_lt (anchor_order y (get_or named k d)) ≡ false
      earlier k d l =
          subst (λ z. is_lt (anchor_order z (get_or named k d)) ≡ false) (is d)
          (sorted_far (λ x z. is_lt (anchor_order x z)) (ranks_by order_total (λ (x : Named). x)) named sorted k i d
          (omega arith) inside)

      -- the last one, where it has the alias's name
      last_number : bytes_eq y.0 alias.0 ≡ true → number y ≡ Some y.1
      last_number same = number_as y true true same (sym (same_names y alias same) ∙ before)

      -- its number is the greatest of those in front
      earlier_at_most : (x : Named) → is_lt (anchor_order y x) ≡ false → AtMost (number y) (number x)
      earlier_at_most x after = elim (cases_Bool (bytes_eq x.0 alias.0)) [
        | inr other ↦ subst (AtMost (number y)) (sym (number_of_other x other)) (none_at_most (number y))
        | inl here ↦
            let name = (bytes_decides x.0 alias.0).0 here in
            elim (cases_Bool (bytes_eq y.0 alias.0)) [
              | inl same ↦
                  let names = (bytes_decides y.0 x.0).1 ((bytes_decides y.0 alias.0).0 same ∙ sym name) in
                  let far = ltb-false y.1 x.1 (sym (same_names y x names) ∙ after) in
                  subst (λ o. AtMost o (number x)) (sym (last_number same)) (bounded_by y.1 x (omega arith))
              | inr other ↦
                  let less = ap (λ n. is_lt (slice_cmp nat_cmp y.0 n)) name ∙ sym (other_names y alias other)
                  ∙ before in
                  absurd (let far = sym (other_names y x (ap (bytes_eq y.0) name ∙ other)) ∙ after in cc)
            ]
      ]

      last_in_front : greatest_below alias.1 alias.0 named ≡ number y
      last_in_front =
          found_at named i y (number y) inside (ap number (is y)) (λ k d l. elim (cases_lt k at) [
            | inl below ↦ earlier_at_most (get_or named k d) (earlier k d below)
            | inr above ↦
                subst (AtMost (number y)) (sym (behind_none (get_or named k d) (point.1 k d above l)))
                (none_at_most (number y))
          ])

      -- the last one in front has the alias's name, or another one
      pub found_in_front : bytes_eq y.0 alias.0 ≡ true → greatest_below alias.1 alias.0 named ≡ Some y.1
      found_in_front same = last_in_front ∙ last_number same

      pub other_in_front : bytes_eq y.0 alias.0 ≡ false → greatest_below alias.1 alias.0 named ≡ None
      other_in_front other = last_in_front ∙ number_of_other y other

-- sorted anchors have the same targets
pub same_find : (named others : List Named) → IsPermutation named others → find_in named ≡ find_in others
same_find named others moved = λ i anchor place.
    (same_at_most (greatest (anchor, place) named) (greatest (anchor, place) others)
    (moved_at_most (anchor, place) named others moved)
    (moved_at_most (anchor, place) others named (IsPermutation-sym named others moved))) i

-- anchors stand at the places of their nodes
placed_at : (o : Option (List ℕ)) (place end : ℕ) (later : List Named) → place < end
    → All (λ x. (place ≤ x.1) × (x.1 < end)) later → All (λ x. (place ≤ x.1) × (x.1 < end)) (anchor_at o place ++ later)
placed_at None place end later l h = h
placed_at (Some a) place end later l h =
    All-cons (λ (x : Named). (place ≤ x.1) × (x.1 < end)) (a, place) later (omega arith, l) h

placed : (place : ℕ) (seen : Input) → All (λ x. (place ≤ x.1) × (x.1 < place + length seen)) (anchors_in place seen)
placed place [] = λ k d l. absurd (omega arith)
placed place (e ∷ seen) =
    placed_at (anchor_of e.0) place (place + suc (length seen)) (anchors_in (place + 1) seen) (omega arith)
    (λ k d l. let h = placed (place + 1) seen k d l in (omega arith, omega arith))

-- and in the order of their places
abbrev Grow : List Named → Type 0
Grow named = (i j : ℕ) (d : Named) → i ≤ j → j < length named → (get_or named i d).1 ≤ (get_or named j d).1

grow_at : (o : Option (List ℕ)) (place : ℕ) (later : List Named) → All (λ x. place ≤ x.1) later → Grow later
    → Grow (anchor_at o place ++ later)
grow_at None place later low h i j d o l = h i j d o l
grow_at (Some a) place later low h zero zero d o l = omega arith
grow_at (Some a) place later low h zero (suc j) d o l = low j d (omega arith)
grow_at (Some a) place later low h (suc i) zero d o l = absurd (omega arith)
grow_at (Some a) place later low h (suc i) (suc j) d o l = h i j d (omega arith) (omega arith)

grow : (place : ℕ) (seen : Input) → Grow (anchors_in place seen)
grow place [] = λ i j d o l. absurd (omega arith)
grow place (e ∷ seen) =
    grow_at (anchor_of e.0) place (anchors_in (place + 1) seen)
    (λ k d l. let h = (placed (place + 1) seen k d l).0 in omega arith) (grow (place + 1) seen)

-- the last anchor, where it has the alias's name, is its target
pub last_found : (seen : Input) (named : List Named) (alias y : Named) → named ≡ anchors_in 0 seen
    → alias.1 ≡ length seen → true ≡ nat_lt 0 (length named)
    → y ≡ get_or named (length named - 1) y → bytes_eq y.0 alias.0 ≡ true
    → find_in (anchors_in 0 seen) alias.0 alias.1 ≡ Some y.1
last_found seen named alias y are at within here same =
    let all = anchors_in 0 seen in
    let some : 0 < length all = ltb-true 0 (length all) (sym (subst (λ xs. true ≡ nat_lt 0 (length xs)) are within)) in
    let inside : length all - 1 < length all = omega (arith, some) in
    let last : y ≡ get_or all (length all - 1) y = subst (λ xs. y ≡ get_or xs (length xs - 1) y) are here in
    let before : y.1 < alias.1 =
    let h = (placed 0 seen (length all - 1) y inside).1 in omega (arith, at, ap (λ (x : Named). x.1) last) in
    found_at alias all (length all - 1) y (Some y.1) inside
    (ap (number alias) (sym last) ∙ number_as alias y true true same (lt-ltb y.1 alias.1 before))
    (λ k d l. bounded_by alias y.1 (get_or all k d)
    (let h = grow 0 seen k (length all - 1) y (omega arith) inside in
    omega (arith, ap (λ (x : Named). x.1) last, ap (λ (x : Named). x.1) (get_or_default all k d y l))))

-- Anchors in the order of their bytes, each beside the place of its node.
use Rattle.std.specs.Prelude.{ℕ, List, ◌≡◌, length, true, false}
use Rattle.std.specs.List.{AllWithin}
use Rattle.std.specs.Cmp.Lexicographic.{slice_cmp}
use Rattle.std.specs.List.Sorted.{IsSorted}
use Rattle.std.specs.Ordering.{is_lt, nat_cmp, ordering_then}
use Rattle.std.specs.declared.cmp.Ordering.{Ordering}

-- the order by the bytes, and then by the places
abbrev pub anchor_order : List ℕ × ℕ → List ℕ × ℕ → Ordering
anchor_order x y = ordering_then (slice_cmp nat_cmp x.0 y.0) (nat_cmp x.1 y.1)

-- the anchors stand in that order
abbrev pub IsInOrder : List (List ℕ × ℕ) → Type 0
IsInOrder named = IsSorted anchor_order named

-- the first anchors, so many, stand in front of the alias
abbrev pub AllBefore : List (List ℕ × ℕ) → (alias : List ℕ × ℕ) → ℕ → Type 0
AllBefore named alias count = AllWithin (λ x. is_lt (anchor_order x alias) ≡ true) named 0 count

-- no anchor from a place on stands in front of the alias
abbrev pub NoneBefore : List (List ℕ × ℕ) → (alias : List ℕ × ℕ) → ℕ → Type 0
NoneBefore named alias from = AllWithin (λ x. is_lt (anchor_order x alias) ≡ false) named from (length named)

-- the alias belongs at the place: the anchors that stand there in front, and no others, are in front of the alias
abbrev pub IsPlaceOf : List (List ℕ × ℕ) → (alias : List ℕ × ℕ) → ℕ → Type 0
IsPlaceOf named alias at = AllBefore named alias at × NoneBefore named alias at

-- What the views of sequences and mappings say of the values in them.
use Rattle.std.specs.Prelude.{◌≡◌, ℕ, zero, suc, ◌<◌, ◌≤◌, ◌++◌, ◌↔◌, List, [], ◌∷◌, length, refl}
use Rattle.std.specs.Prelude.{Bool, true, false, IsTrue, Some, None, nat_eq}
use Rattle.std.proofs.Common.{ap, arith, sym, ◌∙◌, get_or}
use Rattle.std.proofs.lemmas.Bool.Decides.{nat_tests}
use Rattle.yaml_tree.specs.Equal.{trees_eq, pairs_eq}
use Rattle.yaml_tree.specs.Lookup.{has_all_pairs}
use Rattle.yaml_tree.specs.Mapping.{keys_distinct}
use Rattle.yaml_tree.specs.Tree.{Trees, no_trees, tree, Pairs, no_pairs, pair, tree_count, pair_count}
use Rattle.yaml_tree.specs.Tree.{tree_at, with_tree}
use Rattle.yaml_tree.specs.Valid.{ValueTrees, ValuePairs, values_of, pairs_of, value_pairs, pairs_of-value_pairs}
use Rattle.yaml_tree.specs.View.{tree_of, trees_of, are_values-trees_of, entry_pairs, are_pairs-entry_pairs}
use Rattle.yaml_tree.specs.declared.mapping.Entry.{Entry}
use Rattle.yaml_tree.specs.declared.value.Value.{Value}
use Rattle.yaml_tree.proofs.EqualTests.{pairs_eq-has_all_pairs, pairs_eq-other_count, trees_eq-other_count}

-- these are the values of a sequence
abbrev pub IsSequenceOf : List Value → ValueTrees → Type 0
IsSequenceOf vs s = (trees_of vs, are_values-trees_of vs) ≡ s

-- these are the entries of a mapping
abbrev pub IsMappingOf : List Entry → ValuePairs → Type 0
IsMappingOf es m = value_pairs (entry_pairs es) (are_pairs-entry_pairs es) ≡ m

-- the values of a sequence are the trees that it is seen as
pub values_of-view : (vs : List Value) (s : ValueTrees) → IsSequenceOf vs s → trees_of vs ≡ values_of s
values_of-view vs s e = ap values_of e

-- the entries of a mapping, whose keys are distinct, are the pairs that it is seen as
pub pairs_of-view : (es : List Entry) (m : ValuePairs) → IsMappingOf es m → keys_distinct (entry_pairs es) ≡ true
    → entry_pairs es ≡ pairs_of m
pairs_of-view es m e d = sym (pairs_of-value_pairs (entry_pairs es) (are_pairs-entry_pairs es) d) ∙ ap pairs_of e

-- a list of values has as many trees
pub tree_count-trees_of : (vs : List Value) → tree_count (trees_of vs) ≡ length vs
tree_count-trees_of [] = refl
tree_count-trees_of (v ∷ vs) = omega (arith, tree_count-trees_of vs)

-- a list of entries has as many pairs
pub pair_count-entry_pairs : (es : List Entry) → pair_count (entry_pairs es) ≡ length es
pair_count-entry_pairs [] = refl
pair_count-entry_pairs (e ∷ es) = omega (arith, pair_count-entry_pairs es)

-- lists of values of different lengths differ
pub trees_eq-lengths : (xs ys : List Value) → (length xs ≡ length ys → ⊥) → trees_eq (trees_of xs) (trees_of ys) ≡ false
trees_eq-lengths xs ys n =
    trees_eq-other_count _ _ (λ e. n (sym (tree_count-trees_of xs) ∙ (e ∙ tree_count-trees_of ys)))

-- so do lists of entries
pub pairs_eq-lengths : (xs ys : List Entry) → (length xs ≡ length ys → ⊥)
    → pairs_eq (entry_pairs xs) (entry_pairs ys) ≡ false
pairs_eq-lengths xs ys n =
    pairs_eq-other_count _ _ (λ e. n (sym (pair_count-entry_pairs xs) ∙ (e ∙ pair_count-entry_pairs ys)))

-- lists of entries of one length, the first with distinct keys, are equal where each of the first is in the second
pub pairs_eq-entries : (xs ys : List Entry) → keys_distinct (entry_pairs xs) ≡ true → length xs ≡ length ys
    → pairs_eq (entry_pairs xs) (entry_pairs ys) ≡ has_all_pairs (entry_pairs xs) (entry_pairs ys)
pairs_eq-entries xs ys d n =
    pairs_eq-has_all_pairs _ _ d (pair_count-entry_pairs xs ∙ (n ∙ sym (pair_count-entry_pairs ys)))

-- ---- the calls of a sequence
-- a list is empty where it has no value
pub is_empty-trees : (ts : Trees) (b : Bool) → b ≡ nat_eq (tree_count ts) 0 → IsTrue b ↔ (ts ≡ no_trees)
is_empty-trees no_trees b e = (λ t. refl, λ n. e)
is_empty-trees (tree t ts) b e = (λ h. absurd (grind (arith, nat_tests)), λ n. absurd (cc))

-- the value at a place of a list of values
pub tree_at-within : (vs : List Value) (i : ℕ) (d : Value) → i < length vs
    → Some (tree_of (get_or vs i d)) ≡ tree_at (trees_of vs) i
tree_at-within [] i d lt = absurd (omega (arith, lt))
tree_at-within (v ∷ vs) zero d lt = refl
tree_at-within (v ∷ vs) (suc i) d lt = tree_at-within vs i d (omega (arith, lt))

-- there is none past its end
pub tree_at-past : (vs : List Value) (i : ℕ) → length vs ≤ i → None ≡ tree_at (trees_of vs) i
tree_at-past [] i le = refl
tree_at-past (v ∷ vs) zero le = absurd (omega (arith, le))
tree_at-past (v ∷ vs) (suc i) le = tree_at-past vs i (omega (arith, le))

-- a list with one more value at its end
pub trees_of-push : (vs : List Value) (v : Value) → trees_of (vs ++ v ∷ []) ≡ with_tree (trees_of vs) (tree_of v)
trees_of-push [] v = refl
trees_of-push (w ∷ vs) v = ap (tree (tree_of w)) (trees_of-push vs v)

-- ---- the calls of a mapping
-- a mapping is empty where it has no pair
pub is_empty-pairs : (ps : Pairs) (b : Bool) → b ≡ nat_eq (pair_count ps) 0 → IsTrue b ↔ (ps ≡ no_pairs)
is_empty-pairs no_pairs b e = (λ t. refl, λ n. e)
is_empty-pairs (pair k v ps) b e = (λ h. absurd (grind (arith, nat_tests)), λ n. absurd (cc))

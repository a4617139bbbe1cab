-- For callers that go down a value, or build a mapping pair by pair.
use Rattle.std.specs.Prelude.{◌≡◌, ℕ, zero, suc, ◌<◌, List, [], ◌∷◌, ◌++◌, length, refl, Bool, true, false, ◌||◌}
use Rattle.std.specs.Prelude.{Some, is_some, if◌then◌else◌}
use Rattle.std.proofs.Common.{arith, ap, get_or, true≢false}
use Rattle.yaml_tree.specs.Equal.{tree_eq}
use Rattle.yaml_tree.specs.Mapping.{has_key, keys_distinct, value_at, with_pair}
use Rattle.yaml_tree.specs.TakeOut.{and_left, and_right}
use Rattle.yaml_tree.specs.Tree.{Tree, mapping, Trees, Pairs, no_pairs, pair, pair_list, with_last}
use Rattle.yaml_tree.specs.Tree.{tree_size, trees_size, pairs_size, pair_list_size}
use Rattle.yaml_tree.specs.Valid.{is_value, are_pairs}
use Rattle.yaml_tree.specs.View.{tree_of, trees_of}
use Rattle.yaml_tree.specs.declared.value.Value.{Value}

tree_size-get_or : (vs : List Value) (i : ℕ) (d : Value) → i < length vs
    → tree_size (tree_of (get_or vs i d)) < trees_size (trees_of vs)
tree_size-get_or [] i d lt = absurd (omega (arith, lt))
tree_size-get_or (v ∷ vs) zero d lt = omega arith
tree_size-get_or (v ∷ vs) (suc i) d lt = omega (arith, tree_size-get_or vs i d (omega (arith, lt)))

-- a value that was read in a slice is smaller than the sequence that the slice shows
pub tree_size-item : (vs : List Value) (ts : Trees) (i : ℕ) (v : Value) → trees_of vs ≡ ts → i < length vs
    → v ≡ get_or vs i v → tree_size (tree_of v) < trees_size ts
tree_size-item vs ts i v e lt is =
    let there = tree_size-get_or vs i v lt in
    omega (arith, there, ap (λ w. tree_size (tree_of w)) is, ap trees_size e)

-- the pairs that a mapping's iterator gives are as large together as the mapping's pairs
pub pair_list_size-pair_list : (ps : Pairs) → pair_list_size (pair_list ps) ≡ pairs_size ps
pair_list_size-pair_list no_pairs = refl
pair_list_size-pair_list (pair k v ps) = omega (arith, pair_list_size-pair_list ps)

-- ---- a mapping that is built pair by pair
value_at-has_key_by : (b : Bool) (k w : Tree) (ps : Pairs) → is_some (value_at k ps) ≡ has_key k ps
    → is_some (if b then Some w else value_at k ps) ≡ (b || has_key k ps)
value_at-has_key_by true k w ps ih = refl
value_at-has_key_by false k w ps ih = ih

-- there is a value at a key where one of the pairs has it
pub value_at-has_key : (k : Tree) (ps : Pairs) → is_some (value_at k ps) ≡ has_key k ps
value_at-has_key k no_pairs = refl
value_at-has_key k (pair l w ps) = value_at-has_key_by (tree_eq k l) k w ps (value_at-has_key k ps)

with_pair-new_by : (b : Bool) (k v l w : Tree) (ps : Pairs) → (b || has_key k ps) ≡ false
    → (has_key k ps ≡ false → with_pair k v ps ≡ with_last ps k v)
    → (if b then pair l v ps else pair l w (with_pair k v ps)) ≡ pair l w (with_last ps k v)
with_pair-new_by true k v l w ps n ih = absurd (true≢false n)
with_pair-new_by false k v l w ps n ih = ap (pair l w) (ih n)

-- a new key goes last
pub with_pair-new : (k v : Tree) (ps : Pairs) → has_key k ps ≡ false → with_pair k v ps ≡ with_last ps k v
with_pair-new k v no_pairs n = refl
with_pair-new k v (pair l w ps) n = with_pair-new_by (tree_eq k l) k v l w ps n (with_pair-new k v ps)

-- one more pair at the end is one more at the end of the list
pub pair_list-with_last : (ps : Pairs) (k v : Tree) → pair_list (with_last ps k v) ≡ pair_list ps ++ (k, v) ∷ []
pair_list-with_last no_pairs k v = refl
pair_list-with_last (pair l w ps) k v = ap (λ qs. (l, w) ∷ qs) (pair_list-with_last ps k v)

-- the keys of a value's mapping are distinct, and its keys and values are values
pub keys_distinct-value : (ps : Pairs) → is_value (mapping ps) ≡ true
    → (keys_distinct ps ≡ true) × (are_pairs ps ≡ true)
keys_distinct-value ps h = (and_left _ _ h, and_right (keys_distinct ps) _ h)

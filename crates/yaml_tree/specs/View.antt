-- The tree that a `Value` stands for.
use Rattle.std.specs.Prelude.{◌≡◌, List, [], ◌∷◌, true, ◌&&◌, string_bytes, refl}
use Rattle.std.proofs.lemmas.Str.{IsUtf8-string_bytes, is_utf8-from_IsUtf8}
use Rattle.yaml_tree.specs.Number.{number_of, is_number-number_of}
use Rattle.yaml_tree.specs.Tree.{Tree, null, boolean, number, string, sequence, mapping, Trees, no_trees, tree}
use Rattle.yaml_tree.specs.Tree.{Pairs, no_pairs, pair}
use Rattle.yaml_tree.specs.Valid.{is_value, are_values, are_pairs, pairs_of, tree_of_tagged, values_of}
use Rattle.yaml_tree.specs.declared.mapping.Entry.{Entry}
use Rattle.yaml_tree.specs.declared.value.Value.{Value}
use Rattle.yaml_tree.specs.declared.value.Value.TheVariants as V

-- the tree that a value is
abbrev pub tree_of : Value → Tree
tree_of V.Null = null
tree_of (V.Bool b) = boolean b
tree_of (V.Number x) = number (number_of x)
tree_of (V.String s) = string (string_bytes s)
tree_of (V.Sequence s) = sequence (values_of s)
tree_of (V.Mapping m) = mapping (pairs_of m)
tree_of (V.Tagged t) = tree_of_tagged t.value

-- each value is the tree of a value, so its mappings have distinct keys at every level
pub is_value-tree_of : (v : Value) → is_value (tree_of v) ≡ true
is_value-tree_of V.Null = refl
is_value-tree_of (V.Bool b) = refl
is_value-tree_of (V.Number x) = is_number-number_of x
is_value-tree_of (V.String s) = is_utf8-from_IsUtf8 _ (IsUtf8-string_bytes s)
is_value-tree_of (V.Sequence s) = s.1
is_value-tree_of (V.Mapping m) = m.1
is_value-tree_of (V.Tagged t) = λ i. t.value.0.1 i && t.value.1.1 i

-- the trees that values are
abbrev pub trees_of : List Value → Trees
trees_of [] = no_trees
trees_of (v ∷ vs) = tree (tree_of v) (trees_of vs)

-- each of them is the tree of a value
pub are_values-trees_of : (vs : List Value) → are_values (trees_of vs) ≡ true
are_values-trees_of [] = refl
are_values-trees_of (v ∷ vs) = λ i. is_value-tree_of v i && are_values-trees_of vs i

-- the pairs that entries are
abbrev pub entry_pairs : List Entry → Pairs
entry_pairs [] = no_pairs
entry_pairs (e ∷ es) = pair (tree_of e.key) (tree_of e.value) (entry_pairs es)

-- each of them is a pair of values
pub are_pairs-entry_pairs : (es : List Entry) → are_pairs (entry_pairs es) ≡ true
are_pairs-entry_pairs [] = refl
are_pairs-entry_pairs (e ∷ es) =
    λ i. is_value-tree_of e.key i && (is_value-tree_of e.value i && are_pairs-entry_pairs es i)

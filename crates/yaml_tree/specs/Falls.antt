-- Each value inside another is smaller than the tree around it.
use Rattle.std.specs.Prelude.{◌≤◌, List, [], ◌∷◌}
use Rattle.std.proofs.Common.{arith}
use denote.Param.Weighed.{most}
use Rattle.yaml_tree.specs.Tree.{tree_size, trees_size, pairs_size}
use Rattle.yaml_tree.specs.View.{tree_of, trees_of, entry_pairs}
use Rattle.yaml_tree.specs.declared.mapping.Entry.{Entry}
use Rattle.yaml_tree.specs.declared.value.Value.{Value}
use Rattle.yaml_tree.specs.declared.value.Value.TheVariants as V
use Rattle.yaml_tree.specs.declared.mapping.Mapping.TheDeep.{deep-Value, deep-Entry}

-- a value is no deeper than its tree is large
pub deep-Value_le : (v : Value) → deep-Value v ≤ tree_size (tree_of v)
deep-Value_le V.Null = omega arith
deep-Value_le (V.Bool b) = omega arith
deep-Value_le (V.Number x) = omega arith
deep-Value_le (V.String s) = omega arith
deep-Value_le (V.Sequence v) = omega arith
deep-Value_le (V.Mapping m) = omega arith
deep-Value_le (V.Tagged m) = omega arith

-- the same of each value of a list
pub most-Value_le : (vs : List Value) → most deep-Value vs ≤ trees_size (trees_of vs)
most-Value_le [] = omega arith
most-Value_le (v ∷ vs) = omega (arith, deep-Value_le v, most-Value_le vs)

-- the same of each entry of a list
pub most-Entry_le : (es : List Entry) → most deep-Entry es ≤ pairs_size (entry_pairs es)
most-Entry_le [] = omega arith
most-Entry_le (e ∷ es) = omega (arith, deep-Value_le e.key, deep-Value_le e.value, most-Entry_le es)

-- Each value inside another is smaller than the plain value around it.
use Rattle.std.specs.Prelude.{◌≤◌, List, [], ◌∷◌}
use Rattle.std.proofs.Common.{arith}
use denote.Param.Weighed.{most}
use Rattle.yaml_value.specs.Sizes.{value_size, items_size, pairs_size}
use Rattle.yaml_value.specs.View.{plain, plain_items, entry_pairs}
use Rattle.yaml_value.specs.declared.mapping.Entry.{Entry}
use Rattle.yaml_value.specs.declared.value.Value.{Value}
use Rattle.yaml_value.specs.declared.value.Value.TheVariants as V
use Rattle.yaml_value.specs.declared.mapping.Mapping.TheDeep.{deep-Value, deep-Entry}

-- a value is no deeper than its plain value is large
pub deep-Value_le : (v : Value) → deep-Value v ≤ value_size (plain v)
deep-Value_le V.Null = omega arith
deep-Value_le (V.Bool b) = omega arith
deep-Value_le (V.Number n) = omega arith
deep-Value_le (V.String s) = omega arith
deep-Value_le (V.Sequence s) = omega arith
deep-Value_le (V.Mapping m) = omega arith
deep-Value_le (V.Tagged t) = omega arith

-- the same of each value of a list
pub most-Value_le : (vs : List Value) → most deep-Value vs ≤ items_size (plain_items vs)
most-Value_le [] = omega arith
most-Value_le (v ∷ vs) = omega (arith, deep-Value_le v, most-Value_le vs)

-- the same of each entry of a list
pub most-Entry_le : (es : List Entry) → most deep-Entry es ≤ pairs_size (entry_pairs es)
most-Entry_le [] = omega arith
most-Entry_le (e ∷ es) = omega (arith, deep-Value_le e.key, deep-Value_le e.value, most-Entry_le es)

-- The shapes that nodes are read under, one node at a time.
use Rattle.std.specs.Prelude.{ℕ, List, [], ◌∷◌}
use Rattle.yaml.specs.declared.leaf.Leaf.{Leaf}
use Rattle.yaml.specs.declared.leaf.Leaf.TheVariants as leaf
use Rattle.yaml_shape.specs.PlainShape.{PlainShape, any_shape, bool_shape, integer_shape, char_shape, str_shape}
use Rattle.yaml_shape.specs.PlainShape.{identifier_shape, bytes_shape, option_shape, unit_shape, seq_shape}
use Rattle.yaml_shape.specs.PlainShape.{map_shape, enum_shape, ignored_shape, i64, i128, u64, u128}

-- the number of a shape
abbrev pub leaf_number : Leaf → ℕ
leaf_number leaf.Ignored = 0
leaf_number leaf.Bool = 1
leaf_number leaf.I64 = 2
leaf_number leaf.U64 = 3
leaf_number leaf.I128 = 4
leaf_number leaf.U128 = 5
leaf_number leaf.Char = 6
leaf_number leaf.Str = 7
leaf_number leaf.Identifier = 8
leaf_number leaf.Unit = 9
leaf_number leaf.Option = 10
leaf_number leaf.Seq = 11
leaf_number leaf.Map = 12
leaf_number leaf.Enum = 13
leaf_number leaf.Bytes = 14
leaf_number leaf.Any = 15

-- the shape; the parts of an optional, a sequence and a mapping are stepped over, and the enum has no variant
abbrev pub leaf_shape : Leaf → PlainShape
leaf_shape leaf.Ignored = ignored_shape
leaf_shape leaf.Bool = bool_shape
leaf_shape leaf.I64 = integer_shape i64
leaf_shape leaf.U64 = integer_shape u64
leaf_shape leaf.I128 = integer_shape i128
leaf_shape leaf.U128 = integer_shape u128
leaf_shape leaf.Char = char_shape
leaf_shape leaf.Str = str_shape
leaf_shape leaf.Identifier = identifier_shape
leaf_shape leaf.Unit = unit_shape
leaf_shape leaf.Option = option_shape 0
leaf_shape leaf.Seq = seq_shape 0
leaf_shape leaf.Map = map_shape 0 0
leaf_shape leaf.Enum = enum_shape [] []
leaf_shape leaf.Bytes = bytes_shape
leaf_shape leaf.Any = any_shape

-- all shapes, each in the place that is its number
abbrev pub leaf_table : List PlainShape
leaf_table =
    ignored_shape ∷ bool_shape ∷ integer_shape i64 ∷ integer_shape u64 ∷ integer_shape i128 ∷ integer_shape u128
    ∷ char_shape ∷ str_shape ∷ identifier_shape ∷ unit_shape ∷ option_shape 0 ∷ seq_shape 0 ∷ map_shape 0 0
    ∷ enum_shape [] [] ∷ bytes_shape ∷ any_shape ∷ []

-- Integers: their shapes, and what they keep.
use Rattle.std.specs.Prelude.{ℕ, ℤ, pos, IsTrue}
use Rattle.yaml_shape.specs.PlainShape.{IntegerType, integer_shape}
use Rattle.yaml_shape.specs.IntegerTypes.{is_of_type}
use Rattle.yaml_types.specs.Start.{Start, IsClosed, leaf_start}
use Rattle.yaml_types.specs.StartLaws.{closed_leaf}

-- integers of the type
abbrev pub integer_start : IntegerType → Start
integer_start i = leaf_start (integer_shape i)

-- their table, which names no shape outside
pub closed_integer : (i : IntegerType) → IsClosed (integer_start i)
closed_integer i = closed_leaf (integer_shape i) tt

-- the integer with a sign is one of the type
abbrev pub IsSignedOf : IntegerType → ℤ → Type 0
IsSignedOf i z = IsTrue (is_of_type i z)

-- the integer without a sign is one of the type
abbrev pub IsUnsignedOf : IntegerType → ℕ → Type 0
IsUnsignedOf i n = IsTrue (is_of_type i (pos n))

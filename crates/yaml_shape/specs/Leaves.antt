-- The shapes that read scalars alone, and those of integers among them.
use Rattle.std.specs.Prelude.{Bool, true, false, Option, Some, None}
use Rattle.yaml_shape.specs.PlainShape.{PlainShape, bool_shape, char_shape, integer_shape, str_shape, identifier_shape}
use Rattle.yaml_shape.specs.PlainShape.{unit_shape, unit_struct_shape, IntegerType}

-- the integers that a shape asks for
abbrev pub integer_in : PlainShape → Option IntegerType
integer_in (integer_shape i) = Some i
integer_in _ = None

-- the shape reads scalars alone
abbrev pub is_leaf : PlainShape → Bool
is_leaf bool_shape = true
is_leaf char_shape = true
is_leaf (integer_shape i) = true
is_leaf str_shape = true
is_leaf identifier_shape = true
is_leaf unit_shape = true
is_leaf (unit_struct_shape name) = true
is_leaf _ = false

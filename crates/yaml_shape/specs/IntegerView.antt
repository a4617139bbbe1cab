-- The plain integer type of an integer type, and the integers that it has.
use Rattle.std.specs.Prelude.{◌≡◌, pos, true, false}
use Rattle.yaml_shape.specs.IntegerTypes.{has_sign, least, greatest}
use Rattle.yaml_shape.specs.PlainShape.{i8, i16, i32, i64, i128, isize, u8, u16, u32, u64, u128, usize}
use Rattle.yaml_shape.specs.PlainShape.{IntegerType as PlainType}
use Rattle.yaml_shape.specs.declared.integer_type.IntegerRange.{IntegerRange}
use Rattle.yaml_shape.specs.declared.integer_type.IntegerRange.TheVariants.{Signed, Unsigned}
use Rattle.yaml_shape.specs.declared.integer_type.IntegerType.{IntegerType}
use Rattle.yaml_shape.specs.declared.integer_type.IntegerType.TheVariants as integer

-- the plain type
abbrev pub integer_type_of : IntegerType → PlainType
integer_type_of integer.I8 = i8
integer_type_of integer.I16 = i16
integer_type_of integer.I32 = i32
integer_type_of integer.I64 = i64
integer_type_of integer.I128 = i128
integer_type_of integer.Isize = isize
integer_type_of integer.U8 = u8
integer_type_of integer.U16 = u16
integer_type_of integer.U32 = u32
integer_type_of integer.U64 = u64
integer_type_of integer.U128 = u128
integer_type_of integer.Usize = usize

-- the range is that of the type: with a sign where it has one, from its least integer to its greatest
abbrev pub IsRangeOf : PlainType → IntegerRange → Type 0
IsRangeOf i (Signed low high) = (has_sign i ≡ true) × (low ≡ least i) × (high ≡ greatest i)
IsRangeOf i (Unsigned high) = (has_sign i ≡ false) × (pos 0 ≡ least i) × (pos high ≡ greatest i)

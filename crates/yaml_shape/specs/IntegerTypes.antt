-- The integers of each type: its bits, of which one is for the sign where it has one.
use Rattle.std.specs.Prelude.{ℕ, ◌-◌, ◌^◌, ℤ, pos, neg_ℤ, int_le, Bool, true, false, ◌&&◌, if◌then◌else◌}
use Rattle.yaml_shape.specs.PlainShape.{IntegerType, i8, i16, i32, i64, i128, isize, u8, u16, u32, u64, u128, usize}

-- how many bits an integer of the type has
abbrev pub bits_of : IntegerType → ℕ
bits_of i8 = 8
bits_of i16 = 16
bits_of i32 = 32
bits_of i64 = 64
bits_of i128 = 128
bits_of isize = 64
bits_of u8 = 8
bits_of u16 = 16
bits_of u32 = 32
bits_of u64 = 64
bits_of u128 = 128
bits_of usize = 64

-- the type has a sign
abbrev pub has_sign : IntegerType → Bool
has_sign i8 = true
has_sign i16 = true
has_sign i32 = true
has_sign i64 = true
has_sign i128 = true
has_sign isize = true
has_sign u8 = false
has_sign u16 = false
has_sign u32 = false
has_sign u64 = false
has_sign u128 = false
has_sign usize = false

-- the least integer of the type
abbrev pub least : IntegerType → ℤ
least i = if has_sign i then neg_ℤ (pos (2 ^ (bits_of i - 1))) else pos 0

-- the greatest integer of the type
abbrev pub greatest : IntegerType → ℤ
greatest i = if has_sign i then pos (2 ^ (bits_of i - 1) - 1) else pos (2 ^ bits_of i - 1)

-- the integer is one of the type
abbrev pub is_of_type : IntegerType → ℤ → Bool
is_of_type i z = int_le (least i) z && int_le z (greatest i)

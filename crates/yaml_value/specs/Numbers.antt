-- What a number is, for one who asks for an integer of some width or a float.
use Rattle.std.specs.Prelude.{ℕ, ◌^◌, ℤ, pos, negsuc, Option, Some, None, nat_lt, if◌then◌else◌}
use Rattle.std.specs.Prelude.{List, option_map}
use Rattle.std.specs.Float.Ieee.{Float}
use Rattle.std.specs.Fmt.{signed_decimal}
use Rattle.std.specs.Option.{option_and_then}
use Rattle.yaml_value.specs.Forms.{integer_of, float_of, float_near}
use Rattle.yaml_value.specs.declared.number.Number.{Number}

-- the integer that a number is
abbrev pub integer_in : Number → Option ℤ
integer_in number = integer_of number.form

-- the float that a number is
abbrev pub float_in : Number → Option Float
float_in number = float_of number.form

-- the integer, where it is 0 or above and below a bound
abbrev pub unsigned_below : ℕ → ℤ → Option ℕ
unsigned_below bound (pos n) = if nat_lt n bound then Some n else None
unsigned_below bound (negsuc n) = None

-- the integer, where it is from minus a bound to below it
abbrev pub signed_below : ℕ → ℤ → Option ℤ
signed_below bound (pos n) = if nat_lt n bound then Some (pos n) else None
signed_below bound (negsuc n) = if nat_lt n bound then Some (negsuc n) else None

-- the integer as a `u128`, an `i128`, a `u64` and an `i64`
abbrev pub as_u128 : Number → Option ℕ
as_u128 number = option_and_then (unsigned_below (2 ^ 128)) (integer_in number)

abbrev pub as_i128 : Number → Option ℤ
as_i128 number = option_and_then (signed_below (2 ^ 127)) (integer_in number)

abbrev pub as_u64 : Number → Option ℕ
as_u64 number = option_and_then (unsigned_below (2 ^ 64)) (integer_in number)

abbrev pub as_i64 : Number → Option ℤ
as_i64 number = option_and_then (signed_below (2 ^ 63)) (integer_in number)

-- the number as a float
abbrev pub as_f64 : Number → Option Float
as_f64 number = float_near number.form

-- the text of an integer; that of a float is known by what it is read back as
abbrev pub integer_text : Number → Option (List ℕ)
integer_text number = option_map signed_decimal (integer_in number)

-- What the forms of numbers stand for.
use Rattle.std.specs.Prelude.{◌^◌, ℤ, pos, negsuc, Bool, true, false, Option, Some, None, nat_lt, if◌then◌else◌}
use Rattle.std.specs.Float.{binary64}
use Rattle.std.specs.Float.Ieee.{Float, of_int}
use Rattle.yaml_value.specs.declared.number.Form.{Form}
use Rattle.yaml_value.specs.declared.number.Form.TheVariants as form

-- only an integer below 0 has the form of one
abbrev pub is_canonical : Form → Bool
is_canonical (form.Negative (pos n)) = false
is_canonical _ = true

-- the integer that a form stands for
abbrev pub integer_of : Form → Option ℤ
integer_of (form.Unsigned n) = Some (pos n)
integer_of (form.Negative z) = Some z
integer_of (form.Float x) = None

-- the float that a form stands for
abbrev pub float_of : Form → Option Float
float_of (form.Float x) = Some x
float_of _ = None

-- the float nearest to an integer of at most 64 bits, with a sign or without
abbrev pub nearest_of_64_bits : ℤ → Option Float
nearest_of_64_bits (pos n) = if nat_lt n (2 ^ 64) then Some (of_int binary64 (pos n)) else None
nearest_of_64_bits (negsuc n) = if nat_lt n (2 ^ 63) then Some (of_int binary64 (negsuc n)) else None

-- the float that a form stands for, or the one nearest to its integer
abbrev pub float_near : Form → Option Float
float_near (form.Unsigned n) = nearest_of_64_bits (pos n)
float_near (form.Negative z) = nearest_of_64_bits z
float_near (form.Float x) = Some x

-- What a value is, for one who asks for null, a boolean, a number or a text. Tags around it are looked through.
use Rattle.std.specs.Prelude.{ℕ, ℤ, List, Bool, true, false, Option, Some, None}
use Rattle.std.specs.Float.Ieee.{Float}
use Rattle.yaml_value.specs.Forms.{nearest_of_64_bits}
use Rattle.yaml_value.specs.PlainValue.{PlainValue, null, boolean, integer, float, text, tagged}

-- it is null
abbrev pub is_null : PlainValue → Bool
is_null null = true
is_null (tagged t v) = is_null v
is_null _ = false

-- the boolean that it is
abbrev pub boolean_in : PlainValue → Option Bool
boolean_in (boolean truth) = Some truth
boolean_in (tagged t v) = boolean_in v
boolean_in _ = None

-- the number that it is: an integer or a float
abbrev pub number_in : PlainValue → Option PlainValue
number_in (integer z) = Some (integer z)
number_in (float x) = Some (float x)
number_in (tagged t v) = number_in v
number_in _ = None

-- the text that it is
abbrev pub text_in : PlainValue → Option (List ℕ)
text_in (text s) = Some s
text_in (tagged t v) = text_in v
text_in _ = None

-- the integer that a number is
abbrev pub integer_of_number : PlainValue → Option ℤ
integer_of_number (integer z) = Some z
integer_of_number _ = None

-- the float that a number is
abbrev pub float_of_number : PlainValue → Option Float
float_of_number (float x) = Some x
float_of_number _ = None

-- the float that a number is, or the one nearest to its integer
abbrev pub float_near_number : PlainValue → Option Float
float_near_number (integer z) = nearest_of_64_bits z
float_near_number (float x) = Some x
float_near_number _ = None

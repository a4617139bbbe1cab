-- Integer text: an optional sign, then digits of one of four bases; and the integer that it writes.
use Rattle.std.specs.Prelude.{◌≡◌, ◌≢◌, ◌⊎◌, ℕ, ◌+◌, ◌*◌, ◌^◌, ◌<◌, Bool, false, ◌&&◌, ◌==◌, nat_eq, nat_lt}
use Rattle.std.specs.Prelude.{if◌then◌else◌, List, [], ◌∷◌, ◌++◌, length, drop, slice_index, codes, ℤ, pos, int_le}
use Rattle.std.specs.Prelude.{nat_le, not, Option, Some, None}
use Rattle.std.specs.Char.{digit_value}
use Rattle.std.specs.List.{starts_with, list_all}
use Rattle.std.specs.Option.{option_map, option_or}
use Rattle.std.specs.Str.Parse.{AllDigits}
use Rattle.yaml_base.specs.Signs.{Sign, minus, sign_text, signed, is_minus, sign_of, unsigned_part}

-- the four bases
pub data Base : Type 0 where
  decimal : Base
  hexadecimal : Base
  octal : Base
  binary : Base

-- the number of a base's digits
abbrev pub radix : Base → ℕ
radix decimal = 10
radix hexadecimal = 16
radix octal = 8
radix binary = 2

-- what stands in front of the digits
abbrev pub prefix_of : Base → List ℕ
prefix_of decimal = []
prefix_of hexadecimal = codes "0x"
prefix_of octal = codes "0o"
prefix_of binary = codes "0b"

-- the sum of the digits, each times the power of the base that its place has
abbrev pub place_value : ℕ → List ℕ → ℕ
place_value base [] = 0
place_value base (c ∷ cs) = digit_value c * base ^ length cs + place_value base cs

-- decimal digits begin with zero only where it stands alone
abbrev pub HasLeadingZeroAlone : Base → List ℕ → Type 0
HasLeadingZeroAlone decimal digits = slice_index digits 0 ≡ 48 → length digits ≡ 1
HasLeadingZeroAlone _ digits = Unit {0}

-- one digit of the base or more behind its prefix, and the number that they write
pub record IsNumber (base : Base) (text : List ℕ) (n : ℕ) : Type 0 where
  pub digits : List ℕ
  pub spelled : text ≡ prefix_of base ++ digits
  pub present : 0 < length digits
  pub all_digits : AllDigits (radix base) digits
  pub zero_alone : HasLeadingZeroAlone base digits
  pub value : n ≡ place_value (radix base) digits

-- a number behind its sign, and the integer that they write
pub record IsInteger (sign : Sign) (base : Base) (text : List ℕ) (z : ℤ) : Type 0 where
  pub body : List ℕ
  pub size : ℕ
  pub spelled : text ≡ sign_text sign ++ body
  pub number : IsNumber base body size
  pub value : z ≡ signed sign size

-- integer text, with any sign
abbrev pub IsIntegerText : List ℕ → ℤ → Type 0
IsIntegerText text z = (sign : Sign) × (base : Base) × IsInteger sign base text z

-- integer text without a minus
abbrev pub IsUnsignedText : List ℕ → ℕ → Type 0
IsUnsignedText text n = (sign : Sign) × (base : Base) × (sign ≢ minus) × IsInteger sign base text (pos n)

-- integer text that is decimal or has a minus
abbrev pub IsNegativeText : List ℕ → ℤ → Type 0
IsNegativeText text z = (sign : Sign) × (base : Base) × ((base ≡ decimal) ⊎ (sign ≡ minus)) × IsInteger sign base text z

-- The same as functions.

-- the number that one digit of the base or more write
abbrev pub digits_number : ℕ → List ℕ → Option ℕ
digits_number base digits =
    if nat_lt 0 (length digits) && list_all (λ c. nat_lt (digit_value c) base) digits
    then Some (place_value base digits) else None

-- decimal text begins with a zero that does not stand alone
abbrev pub has_zero_in_front : Base → List ℕ → Bool
has_zero_in_front decimal text = slice_index text 0 == 48 && nat_lt 1 (length text)
has_zero_in_front _ text = false

-- the number that the text writes in the base
abbrev pub number_in_base : Base → List ℕ → Option ℕ
number_in_base base text =
    if starts_with nat_eq text (prefix_of base) && not (has_zero_in_front base text)
    then digits_number (radix base) (drop (length (prefix_of base)) text) else None

-- the number that the text writes without a sign
abbrev pub number_in_any_base : List ℕ → Option ℕ
number_in_any_base text = option_or (number_in_base hexadecimal text)
    (option_or (number_in_base octal text) (option_or (number_in_base binary text) (number_in_base decimal text)))

-- the integer that the text writes
abbrev pub integer_of : List ℕ → Option ℤ
integer_of text = option_map (signed (sign_of text)) (number_in_any_base (unsigned_part text))

-- the same without a minus
abbrev pub unsigned_of : List ℕ → Option ℕ
unsigned_of text = if is_minus (sign_of text) then None else number_in_any_base (unsigned_part text)

-- the same of decimal text, and of text in another base with a minus
abbrev pub negative_of : List ℕ → Option ℤ
negative_of text =
    if is_minus (sign_of text) then integer_of text else option_map pos (number_in_base decimal (unsigned_part text))

-- the integer, where it lies in the range
abbrev pub in_range : ℤ → ℤ → Option ℤ → Option ℤ
in_range low high None = None
in_range low high (Some z) = if int_le low z && int_le z high then Some z else None

-- the number, where it is not above the most
abbrev pub up_to : ℕ → Option ℕ → Option ℕ
up_to most None = None
up_to most (Some n) = if nat_le n most then Some n else None

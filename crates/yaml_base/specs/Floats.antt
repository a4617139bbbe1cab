-- Float text: digits with an optional point and an optional exponent, or a word; and digits behind a zero.
use Rattle.std.specs.Prelude.{◌≡◌, ◌⊎◌, ℕ, ◌+◌, ◌<◌, ◌≤◌, Bool, true, ◌==◌, ◌&&◌, ◌||◌, nat_lt, nat_le, bytes_eq}
use Rattle.std.specs.Prelude.{List, [], ◌∷◌, ◌++◌, length, take, drop, slice_index, codes, position, count_by}
use Rattle.std.specs.Char.{is_ascii_digit}
use Rattle.std.specs.List.{list_all, list_any}
use Rattle.std.specs.Option.{option_map_or}
use Rattle.yaml_base.specs.Signs.{Sign, sign_text, unsigned_part}

-- decimal digits
abbrev pub AllDecimal : List ℕ → Type 0
AllDecimal [] = Unit {0}
AllDecimal (c ∷ cs) = ((48 ≤ c) × (c ≤ 57)) × AllDecimal cs

-- digits, or digits round a point, of which there is one at least
pub data IsMantissa (text : List ℕ) : Type 0 where
  whole : 0 < length text → AllDecimal text → IsMantissa text
  pointed : (before after : List ℕ) → text ≡ before ++ 46 ∷ after → AllDecimal before → AllDecimal after
      → 0 < length before + length after → IsMantissa text

-- nothing, or `e` or `E`, an optional sign and digits
pub data IsExponent (text : List ℕ) : Type 0 where
  absent : text ≡ [] → IsExponent text
  present : (mark : ℕ) (sign : Sign) (digits : List ℕ) → text ≡ mark ∷ (sign_text sign ++ digits)
      → (mark ≡ 101) ⊎ (mark ≡ 69) → 0 < length digits → AllDecimal digits → IsExponent text

-- a mantissa and its exponent
pub record IsDecimalFloat (text : List ℕ) : Type 0 where
  pub mantissa : List ℕ
  pub exponent : List ℕ
  pub split : text ≡ mantissa ++ exponent
  pub is_mantissa : IsMantissa mantissa
  pub is_exponent : IsExponent exponent

-- the text is a word for infinity
abbrev pub is_infinity_word : List ℕ → Bool
is_infinity_word text = bytes_eq text (codes ".inf") || (bytes_eq text (codes ".Inf") || bytes_eq text (codes ".INF"))

-- the text is a word for no number
abbrev pub is_nan_word : List ℕ → Bool
is_nan_word text = bytes_eq text (codes ".nan") || (bytes_eq text (codes ".NaN") || bytes_eq text (codes ".NAN"))

-- a decimal float or a word for infinity behind an optional sign, or a word for no number
pub data IsFloatText (text : List ℕ) : Type 0 where
  decimal : (sign : Sign) (body : List ℕ) → text ≡ sign_text sign ++ body → IsDecimalFloat body → IsFloatText text
  infinity : (sign : Sign) (body : List ℕ) → text ≡ sign_text sign ++ body → is_infinity_word body ≡ true
      → IsFloatText text
  nan : is_nan_word text ≡ true → IsFloatText text

-- behind an optional sign two decimal digits or more, of which the first is zero
pub record HasLeadingZero (text : List ℕ) : Type 0 where
  pub sign : Sign
  pub digits : List ℕ
  pub spelled : text ≡ sign_text sign ++ digits
  pub several : 1 < length digits
  pub all_digits : AllDecimal digits
  pub zero : slice_index digits 0 ≡ 48

-- The same as tests.

-- decimal digits, one or more
abbrev pub is_numeral : List ℕ → Bool
is_numeral text = nat_lt 0 (length text) && list_all is_ascii_digit text

-- digits and at most one point, with one digit at least
abbrev pub is_mantissa : List ℕ → Bool
is_mantissa text =
    list_all (λ c. is_ascii_digit c || c == 46) text
    && (nat_le (count_by (λ c. c == 46) text) 1 && list_any is_ascii_digit text)

-- an exponent begins here
abbrev pub is_exponent_mark : ℕ → Bool
is_exponent_mark c = c == 101 || c == 69

-- a mantissa before the first mark, and digits behind it under an optional sign
abbrev pub is_decimal_float : List ℕ → Bool
is_decimal_float text =
    option_map_or (λ place. is_mantissa (take place text) && is_numeral (unsigned_part (drop (place + 1) text)))
    (position is_exponent_mark text) (is_mantissa text)

-- float text
abbrev pub is_float : List ℕ → Bool
is_float text =
    is_nan_word text || (is_infinity_word (unsigned_part text) || is_decimal_float (unsigned_part text))

-- digits behind a zero
abbrev pub has_leading_zero : List ℕ → Bool
has_leading_zero text =
    nat_lt 1 (length (unsigned_part text))
    && (slice_index (unsigned_part text) 0 == 48 && list_all is_ascii_digit (unsigned_part text))

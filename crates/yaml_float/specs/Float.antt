-- The float that a plain text is read as, and the text that a float is written as.
use Rattle.std.specs.Prelude.{◌≡◌, ℕ, Bool, true, false, ◌==◌, ◌&&◌, ◌||◌, bytes_eq, IsTrue, ◌<◌, if◌then◌else◌}
use Rattle.std.specs.Prelude.{List, [], ◌++◌, length, drop, slice_index, codes, Option, Some, None}
use Rattle.std.specs.Option.{option_and_then}
use Rattle.std.specs.Float.{float_is_finite}
use Rattle.std.specs.Float.Ieee.{Float, Format, nan, inf, fin}
use Rattle.std.specs.Fmt.{sign_text}
use Rattle.fast_float.specs.Parse.{parse_float}
use Rattle.std.specs.Float.Numeral.{Parts, text_of, nearest_float}

-- the text without a plus in front
abbrev pub unplussed : List ℕ → List ℕ
unplussed text = if slice_index text 0 == 43 then drop 1 text else text

-- a sign begins the text
abbrev pub has_sign : List ℕ → Bool
has_sign text = slice_index text 0 == 43 || slice_index text 0 == 45

-- two signs begin the text, the first of them a plus
abbrev pub has_two_signs : List ℕ → Bool
has_two_signs text = slice_index text 0 == 43 && has_sign (drop 1 text)

-- a word for infinity
abbrev pub is_infinity_word : List ℕ → Bool
is_infinity_word text = bytes_eq text (codes ".inf") || (bytes_eq text (codes ".Inf") || bytes_eq text (codes ".INF"))

-- a word for minus infinity
abbrev pub is_minus_infinity_word : List ℕ → Bool
is_minus_infinity_word text =
    bytes_eq text (codes "-.inf") || (bytes_eq text (codes "-.Inf") || bytes_eq text (codes "-.INF"))

-- a word for no number
abbrev pub is_nan_word : List ℕ → Bool
is_nan_word text = bytes_eq text (codes ".nan") || (bytes_eq text (codes ".NaN") || bytes_eq text (codes ".NAN"))

-- a finite float
abbrev pub kept_finite : Float → Option Float
kept_finite x = if float_is_finite x then Some x else None

-- The float of a text: a word's; else the one nearest to the decimal, if it is finite.
abbrev pub float_of : Format → List ℕ → Option Float
float_of f text =
    if has_two_signs text then None
    else if is_infinity_word (unplussed text) then Some (inf false)
    else if is_minus_infinity_word text then Some (inf true)
    else if is_nan_word text then Some nan
    else option_and_then kept_finite (parse_float f (unplussed text))

-- the word for a float that is not finite
abbrev pub word_of : Float → List ℕ
word_of nan = codes ".nan"
word_of (inf negative) = sign_text negative ++ codes ".inf"
word_of (fin negative m e) = []

-- of the text of these parts, the nearest float is read, where it is finite
abbrev pub IsFloatOf : Format → Bool → Parts → Type 0
IsFloatOf f negative p = 0 < length p.whole → IsTrue (float_is_finite (nearest_float f negative p))
    → float_of f (sign_text negative ++ text_of p) ≡ Some (nearest_float f negative p)

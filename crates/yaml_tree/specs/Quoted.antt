-- Text and bytes between double quotes, and text without control characters.
use Rattle.std.specs.Prelude.{ℕ, ◌/◌, ◌%◌, ◌==◌, ◌&&◌, ◌||◌, nat_le, nat_lt, Bool, false}
use Rattle.std.specs.Prelude.{List, [], ◌∷◌, ◌++◌, codes, if◌then◌else◌}
use Rattle.std.specs.Char.{encode_utf8}
use Rattle.std.specs.List.{flat_map}
use Rattle.std.specs.Str.{chars}
use Rattle.std.specs.Fmt.{digit_glyph}

-- a backslash, an `x` and the two hexadecimal digits of a byte
abbrev pub hex_escape : ℕ → List ℕ
hex_escape b = 92 ∷ 120 ∷ digit_glyph false (b / 16) ∷ digit_glyph false (b % 16) ∷ []

-- a byte between quotes: `"` and `\` behind a backslash, and what is not printable ASCII by its number
abbrev pub escaped : ℕ → List ℕ
escaped b = if (b == 34) || (b == 92) then 92 ∷ b ∷ []
    else (if nat_le 32 b && nat_lt b 127 then b ∷ [] else hex_escape b)

-- bytes between quotes, as data shows them
abbrev pub quoted : List ℕ → List ℕ
quoted bytes = 34 ∷ (flat_map escaped bytes ++ 34 ∷ [])

-- whether this is the code of a control character
abbrev pub is_control : ℕ → Bool
is_control c = nat_lt c 32 || (nat_le 127 c && nat_lt c 160)

-- a control character by the hexadecimal digits of its code: `\u{1b}`
abbrev pub control_escape : ℕ → List ℕ
control_escape c = codes "\\u{" ++ ((if nat_lt c 16 then [] else digit_glyph false (c / 16) ∷ [])
    ++ (digit_glyph false (c % 16) ∷ codes "}"))

-- a character as it is, but a control character by its code
abbrev pub visible_character : ℕ → List ℕ
visible_character c = if is_control c then control_escape c else encode_utf8 c

-- a text without control characters: each stands by its code
abbrev pub visible : List ℕ → List ℕ
visible text = flat_map visible_character (chars text)

-- A character of a text between quotes: `"` and `\` behind a backslash, the zero character, a tab, a line feed and a
-- carriage return as `\0`, `\t`, `\n` and `\r`, other control characters by their codes, and the rest as it is.
abbrev pub readable_character : ℕ → List ℕ
readable_character c = if (c == 34) || (c == 92) then 92 ∷ c ∷ []
    else if c == 0 then codes "\\0" else if c == 9 then codes "\\t"
    else if c == 10 then codes "\\n" else if c == 13 then codes "\\r"
    else visible_character c

-- a text between quotes, as faults show it
abbrev pub quoted_text : List ℕ → List ℕ
quoted_text text = 34 ∷ (flat_map readable_character (chars text) ++ 34 ∷ [])

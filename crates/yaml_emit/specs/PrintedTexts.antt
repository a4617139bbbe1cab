-- What each style prints for a text.
use Rattle.std.specs.Prelude.{ℕ, ◌/◌, ◌%◌, Bool, true, false, not, nat_lt, ◌==◌, ◌&&◌, if◌then◌else◌, List, []}
use Rattle.std.specs.Prelude.{◌∷◌, ◌++◌, ◌-◌, ◌||◌, Option, Some, None, encode_utf8, length, replicate, take}
use Rattle.std.specs.List.{flat_map}
use Rattle.std.specs.Fmt.{digit_glyph}
use Rattle.std.specs.Str.{chars}
use Rattle.yaml_emit.specs.Characters.{is_printable}
use Rattle.yaml_emit.specs.Styles.{ends_with_byte, is_first}

-- the two hexadecimal digits of a byte
abbrev pub hex_digits : ℕ → List ℕ
hex_digits byte = digit_glyph true (byte / 16) ∷ digit_glyph true (byte % 16) ∷ []

-- the letter that stands behind a backslash for a character
abbrev pub escape_letter : ℕ → Option ℕ
escape_letter c =
    if c == 0 then Some 48 else if c == 7 then Some 97 else if c == 8 then Some 98 else if c == 9 then Some 116
    else if c == 10 then Some 110 else if c == 11 then Some 118 else if c == 12 then Some 102
    else if c == 13 then Some 114 else if c == 27 then Some 101 else if c == 34 then Some 34
    else if c == 92 then Some 92 else if c == 0x85 then Some 78 else if c == 0x2028 then Some 76
    else if c == 0x2029 then Some 80 else None

-- a code by its digits: two behind `x`, four behind `u` or eight behind `U`
abbrev pub code_digits : ℕ → List ℕ
code_digits c =
    if nat_lt c 0x100 then 120 ∷ hex_digits c
    else if nat_lt c 0x10000 then 117 ∷ (hex_digits (c / 0x100) ++ hex_digits (c % 0x100))
    else 85 ∷ 48 ∷ 48 ∷ (hex_digits (c / 0x10000 % 0x100)
    ++ (hex_digits (c / 0x100 % 0x100) ++ hex_digits (c % 0x100)))

-- a character that has no letter: as it is where it is printable, else by its code
abbrev pub shown_or_code : ℕ → Option ℕ → List ℕ
shown_or_code c (Some letter) = 92 ∷ letter ∷ []
shown_or_code c None = if is_printable c then encode_utf8 c else 92 ∷ code_digits c

-- a character between double quotes
abbrev pub escaped_character : ℕ → List ℕ
escaped_character c = shown_or_code c (escape_letter c)

-- a text between double quotes
abbrev pub double_quoted : List ℕ → List ℕ
double_quoted text = 34 ∷ (flat_map escaped_character (chars text) ++ 34 ∷ [])

-- a character but a line feed between single quotes: a quote is doubled
abbrev pub quote_doubled : ℕ → List ℕ
quote_doubled c = if c == 39 then 39 ∷ 39 ∷ [] else encode_utf8 c

-- so many blanks where a line feed stands before
abbrev pub blanks_if : Bool → ℕ → List ℕ
blanks_if broken indent = if broken then replicate indent 32 else []

-- A character between single quotes, where a line feed stands before it or not: of a run of line feeds the first is
-- doubled, and the indentation stands behind the run.
abbrev pub single_piece : (indent : ℕ) → (broken : Bool) → ℕ → List ℕ
single_piece indent broken c =
    if c == 10 then (if broken then 10 ∷ [] else 10 ∷ 10 ∷ []) else blanks_if broken indent ++ quote_doubled c

-- the rest of a text between single quotes, where a line feed stands before it or not
abbrev pub single_rest : (indent : ℕ) → (broken : Bool) → List ℕ → List ℕ
single_rest indent broken [] = blanks_if broken indent
single_rest indent broken (c ∷ cs) = single_piece indent broken c ++ single_rest indent (c == 10) cs

-- a text between single quotes, whose further lines stand in so far
abbrev pub single_quoted : (indent : ℕ) → List ℕ → List ℕ
single_quoted indent text = 39 ∷ (single_rest indent false (chars text) ++ 39 ∷ [])

-- a character of a block, at the beginning of a line or not: a line that is not empty stands behind the indentation
abbrev pub block_piece : (indent : ℕ) → (begins : Bool) → ℕ → List ℕ
block_piece indent begins c = blanks_if (begins && not (c == 10)) indent ++ encode_utf8 c

-- the line feed of a line, unless one begins there
abbrev pub line_end : (begins : Bool) → List ℕ
line_end begins = if begins then [] else 10 ∷ []

-- the rest of a block, and the line feed of its last line where the text has none
abbrev pub block_rest : (indent : ℕ) → (begins : Bool) → List ℕ → List ℕ
block_rest indent begins [] = line_end begins
block_rest indent begins (c ∷ cs) = block_piece indent begins c ++ block_rest indent (c == 10) cs

-- the digit of the indentation, where the text begins with a blank or a line feed
abbrev pub indentation_hint : List ℕ → List ℕ
indentation_hint text = if is_first 32 text || is_first 10 text then 50 ∷ [] else []

-- `-` where the text ends with no line feed, and `+` where it ends with more than one, or is one
abbrev pub chomping_hint : List ℕ → List ℕ
chomping_hint text =
    if not (ends_with_byte 10 text) then 45 ∷ []
    else if length text == 1 || ends_with_byte 10 (take (length text - 1) text) then 43 ∷ [] else []

-- a text as a literal block
abbrev pub literal : (indent : ℕ) → List ℕ → List ℕ
literal indent text =
    124 ∷ (indentation_hint text ++ (chomping_hint text ++ (10 ∷ block_rest indent true (chars text))))

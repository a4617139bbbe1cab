-- What stands between quotes on one line, and the text that it is.
use Rattle.std.specs.Prelude.{ℕ, ◌+◌, ◌-◌, ◌*◌, Bool, true, false, not, ◌==◌, ◌&&◌, ◌||◌, nat_le, nat_lt, if◌then◌else◌}
use Rattle.std.specs.Prelude.{List, [], ◌∷◌, ◌++◌, Option, Some, None, encode_utf8}
use Rattle.std.specs.Option.{option_map}
use Rattle.std.specs.Char.{digit_value}
use Rattle.yaml_base.specs.LineBreaks.{begins_with_break}

-- the code of the character that a letter behind a backslash stands for
abbrev pub letter_code : ℕ → Option ℕ
letter_code letter =
    if letter == 48 then Some 0 else if letter == 97 then Some 7 else if letter == 98 then Some 8
    else if letter == 116 then Some 9 else if letter == 9 then Some 9 else if letter == 110 then Some 10
    else if letter == 118 then Some 11 else if letter == 102 then Some 12 else if letter == 114 then Some 13
    else if letter == 101 then Some 27 else if letter == 32 then Some 32 else if letter == 34 then Some 34
    else if letter == 47 then Some 47 else if letter == 92 then Some 92 else if letter == 78 then Some 0x85
    else if letter == 95 then Some 0xA0 else if letter == 76 then Some 0x2028 else if letter == 80 then Some 0x2029
    else None

-- the code, if it is a character's: at most 0x10FFFF, and no surrogate
abbrev pub character_code : ℕ → Option ℕ
character_code code =
    if nat_lt code 0xD800 || (nat_le 0xE000 code && nat_le code 0x10FFFF) then Some code else None

-- these bytes, and then a text, if it is one
abbrev pub before : List ℕ → Option (List ℕ) → Option (List ℕ)
before bytes text = option_map (λ t. bytes ++ t) text

-- the character of this code, if there is one, and then a text
abbrev pub character_before : Option ℕ → Option (List ℕ) → Option (List ℕ)
character_before None text = None
character_before (Some code) text = before (encode_utf8 code) text

-- What goes before a byte between double quotes: no part of its escape, a backslash, or some digits of a code, where so
-- many more are to come.
pub data Escape : Type 0 where
  none : Escape
  backslash : Escape
  digits : (left code : ℕ) → Escape

-- The rest of what stands between double quotes, behind a part of an escape, as a text: an escape stands for a
-- character, and any other byte for itself. A quote, a line break or an escape that is none or ends early makes it
-- none.
abbrev pub unescaped_behind : Escape → List ℕ → Option (List ℕ)
unescaped_behind none [] = Some []
unescaped_behind none (c ∷ cs) =
    if c == 92 then unescaped_behind backslash cs
    else if c == 34 || begins_with_break (c ∷ cs) then None
    else before (c ∷ []) (unescaped_behind none cs)
unescaped_behind backslash [] = None
unescaped_behind backslash (c ∷ cs) =
    if c == 120 then unescaped_behind (digits 2 0) cs
    else if c == 117 then unescaped_behind (digits 4 0) cs
    else if c == 85 then unescaped_behind (digits 8 0) cs
    else character_before (letter_code c) (unescaped_behind none cs)
unescaped_behind (digits left code) [] = None
unescaped_behind (digits left code) (c ∷ cs) =
    if not (nat_lt (digit_value c) 16) then None
    else if left == 1 then character_before (character_code (16 * code + digit_value c)) (unescaped_behind none cs)
    else unescaped_behind (digits (left - 1) (16 * code + digit_value c)) cs

-- what stands between double quotes on one line, as a text
abbrev pub unescaped : List ℕ → Option (List ℕ)
unescaped = unescaped_behind none

-- The rest of what stands between single quotes, behind the first quote of a pair or not, as a text: two quotes stand
-- for one, and any other byte for itself. A quote alone or a line break makes it none.
abbrev pub undoubled_behind : (quote : Bool) → List ℕ → Option (List ℕ)
undoubled_behind quote [] = if quote then None else Some []
undoubled_behind quote (c ∷ cs) =
    if c == 39 then (if quote then before (39 ∷ []) (undoubled_behind false cs) else undoubled_behind true cs)
    else if quote || begins_with_break (c ∷ cs) then None
    else before (c ∷ []) (undoubled_behind false cs)

-- what stands between single quotes on one line, as a text
abbrev pub undoubled : List ℕ → Option (List ℕ)
undoubled = undoubled_behind false

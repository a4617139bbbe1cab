-- What stands between quotes, in one line or over lines.
use Rattle.std.specs.Prelude.{ℕ, ◌+◌, ◌-◌, ◌*◌, Bool, true, false, not, ◌==◌, ◌&&◌, if◌then◌else◌, nat_lt}
use Rattle.std.specs.Prelude.{List, [], ◌∷◌, ◌++◌, Option, Some, None, encode_utf8}
use Rattle.std.specs.Char.{digit_value}
use Rattle.yaml_base.specs.QuotedLines.{Escape, none, backslash, digits, letter_code, character_code}
use Rattle.yaml_grammar.specs.Bytes.{is_blank, parts}
use Rattle.yaml_grammar.specs.Folding.{Passed, Rest, and_blank, and_feed, escaped, nothing_passed, said_by, with_bytes}

-- The rest of what stands between single quotes, up to the quote that closes it, behind a quote or not, where a line
-- begins or not. Two quotes stand for one. No line begins with `---` or `...`.
abbrev pub single_rest : (quote begins : Bool) → Passed → List ℕ → Rest
single_rest true begins passed [] = Some (0, said_by passed)
single_rest false begins passed [] = None
single_rest true begins passed (c ∷ cs) =
    let doubled = with_bytes 1 (said_by passed ++ 39 ∷ []) (single_rest false false nothing_passed cs) in
    if c == 39 then doubled else Some (0, said_by passed)
single_rest false begins passed (c ∷ cs) =
    let behind_quote = with_bytes 1 [] (single_rest true false passed cs) in
    let in_later_line = with_bytes 1 [] (single_rest false true (and_feed passed) cs) in
    let behind_blank = with_bytes 1 [] (single_rest false false (and_blank passed c) cs) in
    let with_byte = with_bytes 1 (said_by passed ++ c ∷ []) (single_rest false false nothing_passed cs) in
    if begins && parts (c ∷ cs) then None else if c == 39 then behind_quote else if c == 10 then in_later_line
    else if is_blank c then behind_blank else with_byte

-- the character of a code, if there is one, and then the rest
abbrev pub with_character : Option ℕ → Passed → Rest → Rest
with_character None passed rest = None
with_character (Some code) passed rest = with_bytes 1 (said_by passed ++ encode_utf8 code) rest

-- The rest of what stands between double quotes, behind a part of an escape, where a line begins or not. An escape
-- stands for a character, and a backslash at the end of a line takes the line feed away.
abbrev pub double_rest : Escape → (begins : Bool) → Passed → List ℕ → Rest
double_rest escape begins passed [] = None
double_rest none begins passed (c ∷ cs) =
    let behind_backslash = with_bytes 1 [] (double_rest backslash false passed cs) in
    let in_later_line = with_bytes 1 [] (double_rest none true (and_feed passed) cs) in
    let behind_blank = with_bytes 1 [] (double_rest none false (and_blank passed c) cs) in
    let with_byte = with_bytes 1 (said_by passed ++ c ∷ []) (double_rest none false nothing_passed cs) in
    if begins && parts (c ∷ cs) then None else if c == 34 then Some (1, said_by passed)
    else if c == 92 then behind_backslash else if c == 10 then in_later_line
    else if is_blank c then behind_blank else with_byte
double_rest backslash begins passed (c ∷ cs) =
    let in_later_line = with_bytes 1 (said_by passed) (double_rest none true (escaped 0) cs) in
    let two_digits = with_bytes 1 [] (double_rest (digits 2 0) false passed cs) in
    let four_digits = with_bytes 1 [] (double_rest (digits 4 0) false passed cs) in
    let eight_digits = with_bytes 1 [] (double_rest (digits 8 0) false passed cs) in
    let letter = with_character (letter_code c) passed (double_rest none false nothing_passed cs) in
    if c == 10 then in_later_line else if c == 120 then two_digits else if c == 117 then four_digits
    else if c == 85 then eight_digits else letter
double_rest (digits left code) begins passed (c ∷ cs) =
    let now = 16 * code + digit_value c in
    let last = with_character (character_code now) passed (double_rest none false nothing_passed cs) in
    let more = with_bytes 1 [] (double_rest (digits (left - 1) now) false passed cs) in
    if not (nat_lt (digit_value c) 16) then None else if left == 1 then last else more

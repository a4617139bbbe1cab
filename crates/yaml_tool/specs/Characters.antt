-- Texts as they are printed: without control characters but line feeds.
use Rattle.std.specs.Prelude.{ℕ, ◌/◌, ◌%◌, ◌==◌, ◌&&◌, ◌||◌, nat_le, nat_lt, Bool, false}
use Rattle.std.specs.Prelude.{List, [], ◌∷◌, ◌++◌, codes, if◌then◌else◌}
use Rattle.std.specs.Char.{encode_utf8}
use Rattle.std.specs.Fmt.{digit_glyph}
use Rattle.std.specs.List.{flat_map}
use Rattle.std.specs.Str.{chars}
use Rattle.yaml_tree.specs.Quoted.{control_escape, is_control}

-- whether this is the code of a control character that JSON takes as it is
abbrev pub is_late_control : ℕ → Bool
is_late_control c = nat_le 127 c && nat_lt c 160

-- such a character as JSON spells it: `\u009b`
abbrev pub json_escape : ℕ → List ℕ
json_escape c = codes "\\u00" ++ (digit_glyph false (c / 16) ∷ digit_glyph false (c % 16) ∷ [])

abbrev pub json_character : ℕ → List ℕ
json_character c = if is_late_control c then json_escape c else encode_utf8 c

-- JSON as it is printed: it says the same, but has no control character that is no line feed
abbrev pub shown_json : List ℕ → List ℕ
shown_json json = flat_map json_character (chars json)

-- a character of a text: a line feed as it is, and other control characters by their codes, as `\u{1b}`
abbrev pub bare_character : ℕ → List ℕ
bare_character c = if (c == 10) then encode_utf8 c else if is_control c then control_escape c else encode_utf8 c

-- a text as it is printed by itself
abbrev pub bare : List ℕ → List ℕ
bare text = flat_map bare_character (chars text)

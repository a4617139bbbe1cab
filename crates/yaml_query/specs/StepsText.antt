-- The text of a path with these steps.
use Rattle.std.specs.Prelude.{ℕ, List, [], ◌∷◌, ◌++◌, Bool, false, true, not, ◌&&◌, ◌||◌, ◌==◌, codes, decimal, length}
use Rattle.std.specs.Prelude.{if◌then◌else◌}
use Rattle.std.specs.Char.{encode_utf8, is_control, is_whitespace}
use Rattle.std.specs.List.{flat_map, list_all}
use Rattle.std.specs.Str.{chars}
use Rattle.yaml_query.specs.PathText.{closing, dot, is_quote, opening}
use Rattle.yaml_query.specs.Steps.{PlainStep, index, key}

-- a character of the path's own, a quote or a backquote
abbrev pub is_mark : ℕ → Bool
is_mark c = (c == dot) || ((c == opening) || ((c == closing) || (is_quote c || (c == 96))))

-- a character that stands for itself in a key without quotes
abbrev pub is_plain : ℕ → Bool
is_plain c = not (is_mark c) && (not (is_control c) && not (is_whitespace c))

-- a key that stands without quotes: it has characters, and each stands for itself
abbrev pub is_plain_key : List ℕ → Bool
is_plain_key name = not (length name == 0) && list_all is_plain (chars name)

-- a character between quotes: two of them stand for one
abbrev pub quoted_character : ℕ → List ℕ
quoted_character c = if c == 34 then codes "\"\"" else encode_utf8 c

abbrev pub quoted_key : List ℕ → List ℕ
quoted_key name = codes "\"" ++ (flat_map quoted_character (chars name) ++ codes "\"")

abbrev pub key_text : List ℕ → List ℕ
key_text name = if is_plain_key name then name else quoted_key name

-- a step: a dot stands before a key that is not first, and before a place that is
abbrev pub step_text : (is_first : Bool) → PlainStep → List ℕ
step_text is_first (key name) = (if is_first then [] else codes ".") ++ key_text name
step_text is_first (index place) = (if is_first then codes "." else []) ++ (codes "[" ++ (decimal place ++ codes "]"))

abbrev pub steps_from : (is_first : Bool) → List PlainStep → List ℕ
steps_from is_first [] = []
steps_from is_first (s ∷ ss) = step_text is_first s ++ steps_from false ss

-- The text of a path, such as `servers[1].port`; of the path to the whole, a dot.
abbrev pub steps_text : List PlainStep → List ℕ
steps_text [] = codes "."
steps_text (s ∷ ss) = steps_from true (s ∷ ss)

-- Texts that surely may stand without quotes, as those of numbers, of null and of booleans do.
use Rattle.std.specs.Prelude.{ℕ, Bool, not, ◌==◌, ◌&&◌, ◌||◌, List, codes, length, nat_eq}
use Rattle.std.specs.Char.{is_ascii_alphanumeric}
use Rattle.std.specs.List.{list_all, starts_with}
use Rattle.yaml_emit.specs.Styles.{is_first}
use Rattle.yaml_grammar.specs.Bytes.{is_one_of}

-- a letter or a digit of ASCII, or one of `+ - . _`
abbrev pub is_simple_byte : ℕ → Bool
is_simple_byte c = is_ascii_alphanumeric c || is_one_of (codes "+-._") c

-- the text has such bytes alone, begins with no `---` and no `...`, and is no `-`
abbrev pub is_simple : List ℕ → Bool
is_simple text =
    list_all is_simple_byte text && (not (starts_with nat_eq text (codes "---"))
    && (not (starts_with nat_eq text (codes "...")) && not (is_first 45 text && length text == 1)))

-- Which styles a text may stand in, and which one it is printed in.
use Rattle.std.specs.Prelude.{ℕ, Bool, false, not, ◌==◌, ◌&&◌, ◌||◌, if◌then◌else◌, List, [], ◌∷◌, codes}
use Rattle.std.specs.Prelude.{nat_eq, ◌-◌, Option, Some, None, length, slice_get}
use Rattle.std.specs.List.{list_all, list_any, starts_with}
use Rattle.std.specs.Str.{chars}
use Rattle.yaml_base.specs.declared.emitter.AskedStyle.{AskedStyle}
use Rattle.yaml_base.specs.declared.emitter.AskedStyle.TheVariants as asked
use Rattle.yaml_emit.specs.Characters.{is_break, is_from, is_printable, is_line_text}
use Rattle.yaml_emit.specs.declared.style.Style.{Style}
use Rattle.yaml_emit.specs.declared.style.Style.TheVariants as style

-- the byte is one of `# , [ ] { } & * ! | > ' " % @` and the grave accent, which begin something else than text
abbrev pub is_indicator : ℕ → Bool
is_indicator c = c == 35 || c == 44 || c == 91 || c == 93 || c == 123 || c == 125 || c == 38 || c == 42 || c == 33
    || c == 124 || c == 62 || c == 39 || c == 34 || c == 37 || c == 64 || c == 96

-- the byte is `-`, `?` or `:`, which begin something else than text before a blank or an end
abbrev pub is_dash : ℕ → Bool
is_dash c = c == 45 || c == 63 || c == 58

-- the byte is this one
abbrev pub is_byte : ℕ → Option ℕ → Bool
is_byte b None = false
is_byte b (Some c) = c == b

-- the text begins with the byte
abbrev pub is_first : ℕ → List ℕ → Bool
is_first b text = is_byte b (slice_get text 0)

-- the text ends with the byte
abbrev pub ends_with_byte : ℕ → List ℕ → Bool
ends_with_byte b text = is_byte b (slice_get text (length text - 1))

-- `b` stands behind `a` somewhere in the text, or is its first byte where `a` stands before it
abbrev pub has_behind : (a b : ℕ) → (before : Bool) → List ℕ → Bool
has_behind a b before [] = false
has_behind a b before (c ∷ cs) = (before && c == b) || has_behind a b (c == a) cs

-- these two bytes stand side by side somewhere in the text
abbrev pub stand_side_by_side : ℕ → ℕ → List ℕ → Bool
stand_side_by_side a b text = has_behind a b false text

-- the text begins as something else than a plain text does: with an indicator, with `-`, `?` or `:` before a blank or
-- the end, or with `---` or `...`
abbrev pub begins_otherwise : List ℕ → Bool
begins_otherwise [] = false
begins_otherwise (c ∷ cs) =
    is_indicator c || starts_with nat_eq (c ∷ cs) (codes "---") || starts_with nat_eq (c ∷ cs) (codes "...")
    || (is_dash c && (length cs == 0 || is_first 32 cs))

-- the byte is a printable one of ASCII, and neither `:` nor `#`
abbrev pub is_mild : ℕ → Bool
is_mild c = is_from 32 126 c && (not (c == 58) && not (c == 35))

-- no `:` stands before a blank or the end, no `#` behind a blank, and only printable characters
abbrev pub goes_on_plain : List ℕ → Bool
goes_on_plain text =
    not (ends_with_byte 58 text) && not (stand_side_by_side 58 32 text) && not (stand_side_by_side 32 35 text)
    && list_all is_printable (chars text)

-- The text may stand without quotes, though as a key only where it is not empty: it begins as one does, has no blank at
-- its ends, no `:` before a blank or the end, no `#` behind a blank, and only printable characters.
abbrev pub fits_plain : List ℕ → Bool
fits_plain text =
    not (begins_otherwise text) && not (is_first 32 text) && not (ends_with_byte 32 text)
    && not (ends_with_byte 58 text)
    && not (stand_side_by_side 58 32 text) && not (stand_side_by_side 32 35 text) && list_all is_printable (chars text)

-- the text may stand between single quotes: no blank beside a line feed, and only printable characters and line feeds
abbrev pub fits_single_quotes : List ℕ → Bool
fits_single_quotes text =
    not (stand_side_by_side 32 10 text) && not (stand_side_by_side 10 32 text) && list_all is_line_text (chars text)

-- the text may stand as a literal block: it is not empty, no line ends with a blank, nor the text, and it has only
-- printable characters and line feeds
abbrev pub fits_block : List ℕ → Bool
fits_block text =
    not (length text == 0) && not (ends_with_byte 32 text) && not (stand_side_by_side 32 10 text)
    && list_all is_line_text (chars text)

-- some line of the text ends
abbrev pub has_break : List ℕ → Bool
has_break text = list_any is_break (chars text)

-- quotes that the text may stand between
abbrev pub quotes_of : List ℕ → Style
quotes_of text = if fits_single_quotes text then style.SingleQuoted else style.DoubleQuoted

-- no quotes where the text may stand so: a key only where it is not empty
abbrev pub plain_or_quotes : List ℕ → (key : Bool) → Style
plain_or_quotes text key =
    if fits_plain text && not (key && length text == 0) then style.Plain else quotes_of text

-- The style of a text that was asked for in this one, as a key in a line or not: what is asked for where the text may
-- stand so, else quotes.
abbrev pub chosen_style : List ℕ → AskedStyle → (key : Bool) → Style
chosen_style text asked.Any key = plain_or_quotes text key
chosen_style text asked.Plain key = plain_or_quotes text key
chosen_style text asked.SingleQuoted key = quotes_of text
chosen_style text asked.Literal key = if not key && fits_block text then style.Literal else style.DoubleQuoted

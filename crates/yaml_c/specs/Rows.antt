-- What a row shows, in the texts that it speaks of.
use Rattle.std.specs.Prelude.{ℕ, ◌+◌, ◌==◌, nat_lt, if◌then◌else◌, List, Option, None, Some, slice_range}
use Rattle.yaml_base.specs.PlainDocEvent.{PlainDocEvent, alias_to, a_scalar, a_void, mapping_begins, mapping_ends}
use Rattle.yaml_base.specs.PlainDocEvent.{sequence_begins, sequence_ends}
use Rattle.yaml_base.specs.PlainEvent.{PlainScalar}
use Rattle.yaml_base.specs.Position.{Position}
use Rattle.yaml_base.specs.declared.event.ScalarStyle.{ScalarStyle}
use Rattle.yaml_base.specs.declared.event.ScalarStyle.TheVariants as style
use Rattle.yaml_c.specs.Numbers.{ScalarNumbers, row_numbers}
use Rattle.yaml_c.specs.declared.rows.YamlRow.{YamlRow}

-- an event, what it is if it is a scalar, and the number of the row that it links to, or 0
pub record ShownEvent : Type 0 where
  pub event : PlainDocEvent
  pub numbers : Option ScalarNumbers
  pub link : ℕ

-- of a document: how many nestings a reading may go into, how many aliases it may follow, and the number of the row in
-- which the document ends or is cut off
pub record Reach : Type 0 where
  pub nestings : ℕ
  pub follows : ℕ
  pub last : ℕ

-- a document begins; an event of it at a place; it ends; or it is cut off, by a fault with this text and this place
pub data Shown : Type 0 where
  begins : Reach → Shown
  holds : ShownEvent → Position → Shown
  ends : Shown
  is_cut : (text : List ℕ) → Position → Shown

-- a row of a kind, and else nothing
abbrev pub bare_row : ℕ → YamlRow
bare_row kind = record {
  kind = kind;
  word = 0;
  style = 0;
  tag_kind = 0;
  text_in_source = 0;
  has_float = 0;
  ask_quotes = 0;
  unused = 0;
  text_at = 0;
  text_len = 0;
  tag_at = 0;
  tag_len = 0;
  line = 0;
  column = 0;
  index = 0;
  low = 0;
  high = 0;
  float_bits = 0;
  link = 0;
}

-- so many bytes from a place on
abbrev pub part : List ℕ → (at len : ℕ) → List ℕ
part bytes at len = slice_range bytes at (at + len)

-- the text of a scalar or of a fault
abbrev pub row_text : (source texts : List ℕ) → YamlRow → List ℕ
row_text source texts row = part (if row.text_in_source == 1 then source else texts) row.text_at row.text_len

-- the tag, if there is one
abbrev pub row_tag : (texts : List ℕ) → YamlRow → Option (List ℕ)
row_tag texts row = if row.tag_kind == 0 then None else Some (part texts row.tag_at row.tag_len)

-- the place
abbrev pub row_place : YamlRow → Position
row_place row = record { index = row.index; line = row.line; column = row.column }

-- the style with a number
abbrev pub style_of : ℕ → ScalarStyle
style_of n = if n == 0 then style.Plain else (if n == 1 then style.SingleQuoted else (if n == 2 then style.DoubleQuoted
    else (if n == 3 then style.Literal else style.Folded)))

-- a scalar, of which the slice of the source is not told
abbrev pub row_scalar : (source texts : List ℕ) → YamlRow → PlainScalar
row_scalar source texts row = record {
  anchor = None;
  tag = row_tag texts row;
  text = row_text source texts row;
  style = style_of row.style;
  source = None;
}

-- an event: rows of kinds below 8 are scalars
abbrev pub row_event : (source texts : List ℕ) → YamlRow → PlainDocEvent
row_event source texts row = if nat_lt row.kind 8 then a_scalar (row_scalar source texts row)
    else (if row.kind == 8 then a_void
    else (if row.kind == 9 then alias_to row.low
    else (if row.kind == 10 then sequence_begins (row_tag texts row)
    else (if row.kind == 11 then sequence_ends
    else (if row.kind == 12 then mapping_begins (row_tag texts row) else mapping_ends)))))

-- an event, what it is if it is a scalar, and its link
abbrev pub row_shown : (source texts : List ℕ) → YamlRow → ShownEvent
row_shown source texts row = record {
  event = row_event source texts row;
  numbers = row_numbers row;
  link = row.link;
}

-- how far readings go of the document that begins in a row, and where it ends
abbrev pub row_reach : YamlRow → Reach
row_reach row = record { nestings = row.low; follows = row.high; last = row.link }

-- what a row shows: rows of kinds below 14 are events
abbrev pub shown_by : (source texts : List ℕ) → YamlRow → Shown
shown_by source texts row = if nat_lt row.kind 14 then holds (row_shown source texts row) (row_place row)
    else (if row.kind == 14 then begins (row_reach row)
    else (if row.kind == 15 then ends else is_cut (row_text source texts row) (row_place row)))

-- What a scalar is, in the numbers of its row.
use Rattle.std.specs.Prelude.{ℕ, ◌+◌, ◌*◌, ◌^◌, Bool, not, ◌==◌, ◌&&◌, ◌||◌, if◌then◌else◌, nat_lt}
use Rattle.std.specs.Prelude.{List, length, Option, None, Some, bytes_eq, to_bits}
use Rattle.std.specs.Float.{binary64}
use Rattle.std.specs.Int.{cast_unsigned, w128}
use Rattle.std.specs.Option.{is_some, option_map}
use Rattle.std.specs.Str.{is_utf8}
use Rattle.yaml_base.specs.Kinds.{kind_of}
use Rattle.yaml_base.specs.PlainDocEvent.{PlainDocEvent, a_scalar}
use Rattle.yaml_base.specs.PlainEvent.{PlainScalar}
use Rattle.yaml_base.specs.declared.resolver.kind.Kind.{Kind}
use Rattle.yaml_base.specs.declared.resolver.kind.Kind.TheVariants as kind
use Rattle.yaml_c.specs.declared.rows.YamlRow.{YamlRow}
use Rattle.yaml_float.specs.Float.{float_of}
use Rattle.yaml_meaning.specs.CoreTags.{bool_tag, float_tag, int_tag, null_tag}
use Rattle.yaml_meaning.specs.ScalarSorts.{is_local, is_plain}

-- the number of a kind of plain text
abbrev pub kind_number : Kind → ℕ
kind_number kind.Null = 0
kind_number (kind.Bool value) = 1
kind_number (kind.Unsigned n) = 2
kind_number (kind.Signed z) = 3
kind_number kind.Float = 4
kind_number kind.Str = 5

-- the boolean or the integer of such a text, in 128 bits
abbrev pub kind_value : Kind → ℕ
kind_value kind.Null = 0
kind_value (kind.Bool value) = if value then 1 else 0
kind_value (kind.Unsigned n) = n
kind_value (kind.Signed z) = cast_unsigned w128 z
kind_value kind.Float = 0
kind_value kind.Str = 0

-- the number of a tag: of none, of one that begins with `!`, of those of null, booleans, integers and floats, of others
abbrev pub tag_number : Option (List ℕ) → ℕ
tag_number None = 0
tag_number (Some tag) =
    if is_local (Some tag) then 1
    else (if bytes_eq tag null_tag then 2
    else (if bytes_eq tag bool_tag then 3
    else (if bytes_eq tag int_tag then 4
    else (if bytes_eq tag float_tag then 5 else 6))))

-- the tag with this number says what its scalar is
abbrev pub is_core : (tag : ℕ) → Bool
is_core tag = nat_lt 1 tag && nat_lt tag 6

-- what a text is without quotes and without a tag: its kind, its value, and the bits of its float
pub record TextNumbers : Type 0 where
  pub word : ℕ
  pub value : ℕ
  pub float : Option ℕ

-- those of a text that is looked at
abbrev pub looked_at : List ℕ → TextNumbers
looked_at text = record {
  word = kind_number (kind_of text);
  value = kind_value (kind_of text);
  float = option_map (to_bits binary64) (float_of binary64 text);
}

-- those of one that is not, whatever it is said to be
abbrev pub unlooked : (word : ℕ) → TextNumbers
unlooked word = record { word = word; value = 0; float = None }

-- the text is what its tag says
abbrev pub fits_tag : TextNumbers → (tag : ℕ) → (text : List ℕ) → Bool
fits_tag n tag text =
    if tag == 2 then n.word == 0 && not (length text == 0)
    else (if tag == 3 then n.word == 1
    else (if tag == 4 then n.word == 2 || n.word == 3 else is_some n.float))

-- what a scalar is whose tag says it: that, or 7
abbrev pub tagged_number : TextNumbers → (tag : ℕ) → (text : List ℕ) → ℕ
tagged_number n tag text = if not (fits_tag n tag text) then 7 else (if tag == 5 then 4 else n.word)

-- what a plain scalar is whose tag does not say it: a string under a tag of others, and where the text is that of a
-- float beyond all floats; else what its text is
abbrev pub plain_number : TextNumbers → (tag : ℕ) → ℕ
plain_number n tag = if tag == 6 || (n.word == 4 && not (is_some n.float)) then 5 else n.word

-- what a scalar is, as any value, with its tag and its text
pub record ScalarNumbers : Type 0 where
  pub kind : ℕ
  pub tag : ℕ
  pub text : TextNumbers

-- a scalar with this text whose tag, with this number, says what it is
abbrev pub core_numbers : (tag : ℕ) → (text : List ℕ) → ScalarNumbers
core_numbers tag text =
    record { kind = tagged_number (looked_at text) tag text; tag = tag; text = looked_at text }

-- a plain scalar with this text whose tag, with this number, does not say it
abbrev pub plain_numbers : (tag : ℕ) → (text : List ℕ) → ScalarNumbers
plain_numbers tag text =
    record { kind = plain_number (looked_at text) tag; tag = tag; text = looked_at text }

-- a scalar whose tag has this number: bytes that are no text, a string that is not looked at, or what its text is
abbrev pub numbers_under : (tag : ℕ) → PlainScalar → ScalarNumbers
numbers_under tag s =
    if not (is_utf8 s.text) then record { kind = 6; tag = tag; text = unlooked 6 }
    else (if is_core tag then core_numbers tag s.text
    else (if is_plain s.style then plain_numbers tag s.text
    else record { kind = 5; tag = tag; text = unlooked 5 }))

-- what a scalar is
abbrev pub scalar_numbers : PlainScalar → ScalarNumbers
scalar_numbers s = numbers_under (tag_number s.tag) s

-- what an event is, if it is a scalar
abbrev pub event_numbers : PlainDocEvent → Option ScalarNumbers
event_numbers (a_scalar s) = Some (scalar_numbers s)
event_numbers other = None

-- what stands in a row of a scalar
abbrev pub numbers_in : YamlRow → ScalarNumbers
numbers_in row = record {
  kind = row.kind;
  tag = row.tag_kind;
  text = record {
    word = row.word;
    value = row.high * 2 ^ 64 + row.low;
    float = if row.has_float == 1 then Some row.float_bits else None;
  };
}

-- what stands in a row, if it is one of a scalar
abbrev pub row_numbers : YamlRow → Option ScalarNumbers
row_numbers row = if nat_lt row.kind 8 then Some (numbers_in row) else None

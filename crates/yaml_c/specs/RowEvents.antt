-- The events that rows are, for an emitter, in the texts that they speak of.
use Rattle.std.specs.Prelude.{◌≡◌, ◌⊎◌, ℕ, ◌+◌, ◌*◌, ◌^◌, ◌%◌, Bool, true, ◌==◌, ◌||◌, nat_lt, if◌then◌else◌}
use Rattle.std.specs.Prelude.{List, [], ◌∷◌, ◌++◌, codes, Some, from_bits}
use Rattle.std.specs.Float.{binary32, binary64}
use Rattle.std.specs.Fmt.{decimal, signed_decimal}
use Rattle.std.specs.Int.{cast_signed, w128}
use Rattle.yaml_base.specs.AskedStyles.{asked_style}
use Rattle.yaml_base.specs.EmitEvents.{PlainEmit, emit_document_end, emit_document_start, emit_mapping_end}
use Rattle.yaml_base.specs.EmitEvents.{emit_mapping_start, emit_scalar, emit_sequence_end, emit_sequence_start}
use Rattle.yaml_base.specs.EmitEvents.{emit_stream_end, emit_stream_start}
use Rattle.yaml_base.specs.declared.emitter.AskedStyle.{AskedStyle}
use Rattle.yaml_base.specs.declared.emitter.AskedStyle.TheVariants as asked
use Rattle.yaml_c.specs.Rows.{row_tag, row_text}
use Rattle.yaml_c.specs.declared.rows.YamlRow.{YamlRow}
use Rattle.yaml_float.specs.Float.{float_of}

-- the integer in both halves, without a minus
abbrev pub whole : YamlRow → ℕ
whole row = row.high * 2 ^ 64 + row.low

-- the word for a boolean
abbrev pub boolean_word : YamlRow → List ℕ
boolean_word row = if row.low == 0 then codes "false" else codes "true"

-- rows of this kind are null, a boolean, an integer or a float
abbrev pub is_number : (kind : ℕ) → Bool
is_number kind = nat_lt kind 5 || (kind == 8 || kind == 17)

-- the text is that of the null, the boolean, the integer or the float in the row; of a float one that is read as it
pub record IsNumberText (row : YamlRow) (text : List ℕ) : Type 0 where
  pub number : is_number row.kind ≡ true
  pub null : (row.kind ≡ 0) ⊎ (row.kind ≡ 8) → text ≡ codes "null"
  pub boolean : row.kind ≡ 1 → text ≡ boolean_word row
  pub unsigned : row.kind ≡ 2 → text ≡ decimal (whole row)
  pub signed : row.kind ≡ 3 → text ≡ signed_decimal (cast_signed w128 (whole row))
  pub float : row.kind ≡ 4 → float_of binary64 text ≡ Some (from_bits binary64 row.float_bits)
  pub short_float : row.kind ≡ 17 → float_of binary32 text ≡ Some (from_bits binary32 (row.low % 2 ^ 32))

-- the style that is asked for a string
abbrev pub string_style : YamlRow → List ℕ → AskedStyle
string_style row text = if row.ask_quotes == 1 then asked.SingleQuoted else asked_style text

-- the event is the row's: a number stands plain, a string as it is asked, and neither is of another kind
pub data IsEventOf (source texts : List ℕ) (row : YamlRow) : PlainEmit → Type 0 where
  a_number : {text : List ℕ} → IsNumberText row text → IsEventOf source texts row
      (emit_scalar (row_tag texts row) text asked.Plain)
  a_string : row.kind ≡ 5 → IsEventOf source texts row
      (emit_scalar (row_tag texts row) (row_text source texts row) (string_style row (row_text source texts row)))
  a_sequence : row.kind ≡ 10 → IsEventOf source texts row (emit_sequence_start (row_tag texts row))
  its_end : row.kind ≡ 11 → IsEventOf source texts row emit_sequence_end
  a_mapping : row.kind ≡ 12 → IsEventOf source texts row (emit_mapping_start (row_tag texts row))
  the_end : row.kind ≡ 13 → IsEventOf source texts row emit_mapping_end
  a_document : row.kind ≡ 14 → IsEventOf source texts row emit_document_start
  its_last : row.kind ≡ 15 → IsEventOf source texts row emit_document_end

-- these events are those of the rows, one of each
pub data AreEach (source texts : List ℕ) : List YamlRow → List PlainEmit → Type 0 where
  none_left : AreEach source texts [] []
  one_more : {row : YamlRow} {event : PlainEmit} {rows : List YamlRow} {events : List PlainEmit}
      → IsEventOf source texts row event → AreEach source texts rows events
      → AreEach source texts (row ∷ rows) (event ∷ events)

-- the events of a stream are those of the rows, between its begin and its end
pub record AreEventsOf (rows : List YamlRow) (source texts : List ℕ) (events : List PlainEmit) : Type 0 where
  pub each : List PlainEmit
  pub of_rows : AreEach source texts rows each
  pub stream : events ≡ emit_stream_start ∷ (each ++ emit_stream_end ∷ [])

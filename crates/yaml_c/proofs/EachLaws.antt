-- The events of rows, one more.
use Rattle.std.proofs.Common.{◌≡◌, ◌≤◌, ◌+◌, ◌-◌, ℕ, ◌∙◌, ap, arith, refl, subst, sym, List, [], ◌∷◌, ◌++◌}
use Rattle.std.proofs.Common.{length, Option}
use Rattle.std.proofs.lemmas.List.{append-nil, append_assoc, length-append}
use Rattle.yaml_base.specs.EmitEvents.{PlainEmit, emit_mapping_start, emit_scalar, emit_sequence_start}
use Rattle.yaml_base.specs.EmitEvents.{emit_stream_end, emit_stream_start}
use Rattle.yaml_base.specs.declared.emitter.AskedStyle.{AskedStyle}
use Rattle.yaml_base.specs.declared.emitter.AskedStyle.TheVariants as asked
use Rattle.yaml_c.specs.Refused.{IsRefusedAt, IsWritten, no_stream, not_written}
use Rattle.yaml_c.specs.RowEvents.{AreEach, AreEventsOf, IsEventOf, IsNumberText, a_mapping, a_number, a_sequence}
use Rattle.yaml_c.specs.RowEvents.{a_string, none_left, one_more, string_style}
use Rattle.yaml_c.specs.Rows.{row_tag, row_text}
use Rattle.yaml_c.specs.declared.print.Outcome.{Outcome}
use Rattle.yaml_c.specs.declared.print.Outcome.TheVariants.{Text, Refused, Memory}
use Rattle.yaml_c.specs.declared.print.Refusal.{Refusal}
use Rattle.yaml_c.specs.declared.print.Refusal.TheVariants as refusal
use Rattle.yaml_c.specs.declared.rows.YamlRow.{YamlRow}
use Rattle.yaml_c.specs.inner.Printing.{AddsEach, AddsFirst, AddsRow, IfRow, IsPrinted, IsTextOf, outcome_of}

-- one more event of one more row
each_more : (source texts : List ℕ) (row : YamlRow) (event : PlainEmit) {rows : List YamlRow} {events : List PlainEmit}
    → AreEach source texts rows events → IsEventOf source texts row event
    → AreEach source texts (rows ++ row ∷ []) (events ++ event ∷ [])
each_more source texts row event none_left is = one_more is none_left
each_more source texts row event (one_more first rest) is =
    one_more first (each_more source texts row event rest is)

-- no row yet
pub adds_no_row : (source texts : List ℕ) (rows : List YamlRow) (old : List PlainEmit)
    → AddsFirst rows rows source texts old old
adds_no_row source texts rows old = record {
  handed = [];
  rest = refl;
  adds = record { more = []; of_rows = none_left; added = sym (append-nil old) };
}

-- one row more
pub adds_one_row : (source texts : List ℕ) (rows left left' : List YamlRow) (old new new' : List PlainEmit)
    (row : YamlRow)
    → AddsFirst rows left source texts old new
    → left ≡ row ∷ left'
    → AddsRow source texts row new new'
    → AddsFirst rows left' source texts old new'
adds_one_row source texts rows left left' old new new' row first split adds = record {
  handed = first.handed ++ row ∷ [];
  rest = append_assoc first.handed (row ∷ []) left'
      ∙ (ap (λ (xs : List YamlRow). first.handed ++ xs) (sym split) ∙ first.rest);
  adds = record {
    more = first.adds.more ++ adds.event ∷ [];
    of_rows = each_more source texts row adds.event first.adds.of_rows adds.of_row;
    added = adds.added ∙ (ap (λ (xs : List PlainEmit). xs ++ adds.event ∷ []) first.adds.added
        ∙ append_assoc old first.adds.more (adds.event ∷ []));
  };
}

-- all rows
pub adds_all_rows : (source texts : List ℕ) (rows left : List YamlRow) (old new : List PlainEmit)
    → AddsFirst rows left source texts old new
    → left ≡ []
    → AddsEach rows source texts old new
adds_all_rows source texts rows left old new first none =
    subst (λ (xs : List YamlRow). AddsEach xs source texts old new)
    (sym (append-nil first.handed) ∙ (ap (λ (xs : List YamlRow). first.handed ++ xs) (sym none) ∙ first.rest))
    first.adds

-- the first row that may not be written
pub stops_there : (source texts : List ℕ) (rows left left' : List YamlRow) (old new : List PlainEmit) (row : YamlRow)
    (place : ℕ)
    → AddsFirst rows left source texts old new
    → left ≡ row ∷ left'
    → place ≡ length rows - length left
    → (IsWritten source texts row → ⊥)
    → IsRefusedAt rows source texts place
stops_there source texts rows left left' old new row place first split counted refused =
    let long : length rows ≡ length first.handed + length left =
    ap length (sym first.rest) ∙ length-append first.handed left in
    not_written first.handed row left' first.adds.more
    (sym first.rest ∙ ap (λ (xs : List YamlRow). first.handed ++ xs) split) (omega (arith, long, counted))
    first.adds.of_rows refused

-- rows that are not written
pub refused_rows : (source texts : List ℕ) (rows : List YamlRow) (refusal : Refusal) (outcome : Outcome)
    → outcome ≡ outcome_of refusal
    → IfRow (IsRefusedAt rows source texts) refusal
    → IsPrinted outcome rows source texts
refused_rows source texts rows (refusal.Row place) outcome is refused =
    subst (λ o. IsPrinted o rows source texts) (sym is) refused
refused_rows source texts rows refusal.Memory outcome is refused =
    subst (λ o. IsPrinted o rows source texts) (sym is) tt

-- the stream of the rows
pub stream_of_rows : (source texts : List ℕ) (rows : List YamlRow) (start all ended : List PlainEmit)
    → start ≡ emit_stream_start ∷ []
    → AddsEach rows source texts start all
    → ended ≡ all ++ emit_stream_end ∷ []
    → AreEventsOf rows source texts ended
stream_of_rows source texts rows start all ended begun adds pushed = record {
  each = adds.more;
  of_rows = adds.of_rows;
  stream = pushed ∙ ap (λ (xs : List PlainEmit). xs ++ (emit_stream_end ∷ []))
      (adds.added ∙ ap (λ (es : List PlainEmit). es ++ adds.more) begun);
}

-- what came of printing the events of the rows came of printing the rows
pub printed_rows : (source texts : List ℕ) (rows : List YamlRow) (events : List PlainEmit) (count : ℕ)
    (outcome : Outcome)
    → count ≡ length rows
    → AreEventsOf rows source texts events
    → IsTextOf outcome events count
    → IsPrinted outcome rows source texts
printed_rows source texts rows events count (Text text) is of_rows printed = (events, of_rows, printed)
printed_rows source texts rows events count (Refused place) is of_rows printed =
    no_stream events of_rows printed.1 (subst (λ n. place ≤ n) is printed.0)
printed_rows source texts rows events count Memory is of_rows printed = tt

-- a sequence begins, with the row's tag
pub sequence_begins_row : (source texts : List ℕ) (row : YamlRow) (tag : Option (List ℕ)) → row.kind ≡ 10
    → tag ≡ row_tag texts row → IsEventOf source texts row (emit_sequence_start tag)
sequence_begins_row source texts row tag kind same =
    subst (λ (t : Option (List ℕ)). IsEventOf source texts row (emit_sequence_start t)) (sym same) (a_sequence kind)

-- a mapping begins, with the row's tag
pub mapping_begins_row : (source texts : List ℕ) (row : YamlRow) (tag : Option (List ℕ)) → row.kind ≡ 12
    → tag ≡ row_tag texts row → IsEventOf source texts row (emit_mapping_start tag)
mapping_begins_row source texts row tag kind same =
    subst (λ (t : Option (List ℕ)). IsEventOf source texts row (emit_mapping_start t)) (sym same) (a_mapping kind)

-- a number, with the row's tag
pub number_row : (source texts : List ℕ) (row : YamlRow) (tag : Option (List ℕ)) (text : List ℕ)
    → IsNumberText row text
    → tag ≡ row_tag texts row → IsEventOf source texts row (emit_scalar tag text asked.Plain)
number_row source texts row tag text is same =
    subst (λ (t : Option (List ℕ)). IsEventOf source texts row (emit_scalar t text asked.Plain)) (sym same)
    (a_number is)

-- a string, with the row's tag
pub string_row : (source texts : List ℕ) (row : YamlRow) (tag : Option (List ℕ)) (text : List ℕ) (style : AskedStyle)
    → row.kind ≡ 5
    → text ≡ row_text source texts row
    → style ≡ string_style row text
    → tag ≡ row_tag texts row → IsEventOf source texts row (emit_scalar tag text style)
string_row source texts row tag text style kind is asked same =
    subst (λ (s : AskedStyle). IsEventOf source texts row (emit_scalar tag text s)) (sym asked)
    (subst (λ (x : List ℕ). IsEventOf source texts row (emit_scalar tag x (string_style row x))) (sym is)
    (subst (λ (t : Option (List ℕ)). IsEventOf source texts row
    (emit_scalar t (row_text source texts row) (string_style row (row_text source texts row)))) (sym same)
    (a_string kind)))

-- What stands on a tape, as the events of a document.
use Rattle.std.specs.Prelude.{List, None, Option, Some, drop, map, slice_range, ℕ}
use Rattle.yaml_base.specs.PlainDocEvent.{PlainDocEvent, a_scalar, mapping_begins, mapping_ends, sequence_begins}
use Rattle.yaml_base.specs.PlainDocEvent.{sequence_ends}
use Rattle.yaml_base.specs.PlainEvent.{PlainScalar}
use Rattle.yaml_tape.specs.OnTape.{names_at, tag_in, text_on}
use Rattle.yaml_tape.specs.declared.entry.Entry.{Entry}
use Rattle.yaml_tape.specs.declared.entry.EntryKind.{EntryKind}
use Rattle.yaml_tape.specs.declared.entry.EntryKind.TheVariants as kind
use Rattle.yaml_tape.specs.declared.entry.Names.{Names}
use Rattle.yaml_tape.specs.declared.tape.Tape.{Tape}

-- the scalar of an entry, with its tag and without its anchor
abbrev pub tagged : (text arena : List ℕ) → List Names → Entry → PlainScalar
tagged text arena names e = record {
  anchor = None;
  tag = tag_in (names_at names e.names);
  text = text_on text arena e;
  style = e.style;
  source = Some (slice_range text e.index e.end);
}

-- the event of a document that an entry of this kind is; none for an alias, and for what is no part of a node
abbrev pub doc_event_by : EntryKind → (text arena : List ℕ) → List Names → Entry → Option PlainDocEvent
doc_event_by kind.Scalar text arena names e = Some (a_scalar (tagged text arena names e))
doc_event_by kind.SequenceStart text arena names e = Some (sequence_begins (tag_in (names_at names e.names)))
doc_event_by kind.SequenceEnd text arena names e = Some sequence_ends
doc_event_by kind.MappingStart text arena names e = Some (mapping_begins (tag_in (names_at names e.names)))
doc_event_by kind.MappingEnd text arena names e = Some mapping_ends
doc_event_by _ text arena names e = None

-- that of an entry
abbrev pub doc_by : (text arena : List ℕ) → List Names → Entry → Option PlainDocEvent
doc_by text arena names e = doc_event_by e.kind text arena names e

-- those of the entries from a place on
abbrev pub docs_from : Tape → ℕ → List (Option PlainDocEvent)
docs_from t place = map (doc_by t.text.now t.arena.items t.names.items) (drop place t.entries.items)

-- the scalar of an entry without an anchor and a tag
abbrev pub bare : Tape → Entry → PlainScalar
bare t e = record {
  anchor = None;
  tag = None;
  text = text_on t.text.now t.arena.items e;
  style = e.style;
  source = Some (slice_range t.text.now e.index e.end);
}

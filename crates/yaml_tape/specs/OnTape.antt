-- What stands on a tape, as events with their marks.
use Rattle.std.specs.Prelude.{ℕ, zero, suc, ◌+◌, ◌≤◌, ◌≡◌, List, [], map, length, Bool, true, false, Option, None, Some}
use Rattle.std.specs.Prelude.{slice_range, slice_get}
use Rattle.yaml_base.specs.PlainEvent.{PlainEvent, alias, scalar, sequence_start, sequence_end, mapping_start}
use Rattle.yaml_base.specs.PlainEvent.{mapping_end, stream_start, stream_end, document_start, document_end}
use Rattle.yaml_base.specs.Position.{Position}
use Rattle.yaml_base.specs.Places.{place_of}
use Rattle.yaml_tape.specs.declared.entry.Entry.{Entry}
use Rattle.yaml_tape.specs.declared.entry.EntryKind.{EntryKind}
use Rattle.yaml_tape.specs.declared.entry.EntryKind.TheVariants as kind
use Rattle.yaml_tape.specs.declared.entry.Names.{Names}
use Rattle.yaml_tape.specs.declared.entry.Spot.{Spot}
use Rattle.yaml_base.specs.declared.event.ScalarStyle.TheVariants as style

-- The mark of a place; `late` where the text has ended in a line without a line feed, and the mark stands on the line
-- behind it.
abbrev pub position_at : List ℕ → ℕ → (late : Bool) → Position
position_at text index true = record { index = index; line = (place_of text index).0 + 1; column = 0 }
position_at text index false =
    record { index = index; line = (place_of text index).0; column = (place_of text index).1 }

-- the names with this number, counted from 1
abbrev pub names_at : List Names → ℕ → Option Names
names_at names zero = None
names_at names (suc k) = slice_get names k

-- the anchor and the tag of a node, if it has them, and the name of an alias
abbrev pub anchor_in : Option Names → Option (List ℕ)
anchor_in None = None
anchor_in (Some n) = n.anchor

abbrev pub tag_in : Option Names → Option (List ℕ)
tag_in None = None
tag_in (Some n) = n.tag

abbrev pub or_empty : Option (List ℕ) → List ℕ
or_empty None = []
or_empty (Some name) = name

-- where a text is kept: in the source, or with those that the source does not show
abbrev pub kept_in : (text arena : List ℕ) → (stored : Bool) → List ℕ
kept_in text arena true = arena
kept_in text arena false = text

-- the text of an entry
abbrev pub text_on : (text arena : List ℕ) → Entry → List ℕ
text_on text arena e = slice_range (kept_in text arena e.stored) e.from e.to

-- an entry without a text, with the names of this number
abbrev pub bare_entry : EntryKind → Spot → (names : ℕ) → Entry
bare_entry k spot names = record {
  index = spot.index;
  from = 0;
  to = 0;
  end = 0;
  names = names;
  kind = k;
  style = style.Plain;
  stored = false;
  late = spot.late;
}

-- the event of an entry that has neither a text nor names, nor begins a collection
abbrev pub bound_event : EntryKind → PlainEvent
bound_event kind.StreamStart = stream_start
bound_event kind.StreamEnd = stream_end
bound_event kind.DocumentStart = document_start
bound_event kind.DocumentEnd = document_end
bound_event kind.SequenceEnd = sequence_end
bound_event kind.MappingEnd = mapping_end
bound_event _ = stream_start

-- such an entry
abbrev pub is_bound : EntryKind → Bool
is_bound kind.Alias = false
is_bound kind.Scalar = false
is_bound kind.SequenceStart = false
is_bound kind.MappingStart = false
is_bound _ = true

-- a collection begins
abbrev pub starts : EntryKind → Bool
starts kind.SequenceStart = true
starts kind.MappingStart = true
starts _ = false

-- the event of an entry
abbrev pub event_by : EntryKind → (text arena : List ℕ) → List Names → Entry → PlainEvent
event_by kind.Scalar text arena names e = scalar (record {
  anchor = anchor_in (names_at names e.names);
  tag = tag_in (names_at names e.names);
  text = text_on text arena e;
  style = e.style;
  source = Some (slice_range text e.index e.end);
})
event_by kind.Alias text arena names e = alias (or_empty (anchor_in (names_at names e.names)))
event_by kind.SequenceStart text arena names e =
    sequence_start (anchor_in (names_at names e.names)) (tag_in (names_at names e.names))
event_by kind.MappingStart text arena names e =
    mapping_start (anchor_in (names_at names e.names)) (tag_in (names_at names e.names))
event_by k text arena names e = bound_event k

-- the event of an entry, with its mark
abbrev pub marked_by : (text arena : List ℕ) → List Names → Entry → PlainEvent × Position
marked_by text arena names e = (event_by e.kind text arena names e, position_at text e.index e.late)

-- the events of entries, each with its mark
abbrev pub marked_of : (text arena : List ℕ) → List Names → List Entry → List (PlainEvent × Position)
marked_of text arena names entries = map (marked_by text arena names) entries

-- an entry whose ranges lie within
pub record IsInside (text arena : List ℕ) (names : List Names) (e : Entry) : Type 0 where
  pub index : e.index ≤ length text
  pub forward : e.from ≤ e.to
  pub within : e.to ≤ length (kept_in text arena e.stored)
  pub named : e.names ≤ length names

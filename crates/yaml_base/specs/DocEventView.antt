-- The plain event of a document's event.
use Rattle.std.specs.Prelude.{List, map, None}
use Rattle.std.specs.Option.{option_map}
use Rattle.yaml_base.specs.Position.{Position}
use Rattle.yaml_base.specs.PlainEvent.{PlainScalar}
use Rattle.yaml_base.specs.PlainDocEvent.{PlainDocEvent, alias_to, a_scalar, sequence_begins, sequence_ends}
use Rattle.yaml_base.specs.PlainDocEvent.{mapping_begins, mapping_ends, a_void}
use Rattle.yaml_base.specs.declared.doc_event.DocEvent.{DocEvent}
use Rattle.yaml_base.specs.declared.doc_event.DocEvent.TheVariants as event
use Rattle.yaml_base.specs.declared.doc_event.DocScalar.{DocScalar}

-- the plain scalar of a scalar
abbrev pub doc_scalar_of : DocScalar → PlainScalar
doc_scalar_of s = record {
  anchor = None;
  tag = s.tag;
  text = s.value.items;
  style = s.style;
  source = option_map (λ r. r.now) s.repr;
}

-- the plain event of an event
abbrev pub doc_event_of : DocEvent → PlainDocEvent
doc_event_of (event.Alias target) = alias_to target
doc_event_of (event.Scalar s) = a_scalar (doc_scalar_of s)
doc_event_of (event.SequenceStart start) = sequence_begins start.tag
doc_event_of event.SequenceEnd = sequence_ends
doc_event_of (event.MappingStart start) = mapping_begins start.tag
doc_event_of event.MappingEnd = mapping_ends
doc_event_of event.Void = a_void

-- the plain events of events, each with its mark
abbrev pub marked_events_of : List (DocEvent × Position) → List (PlainDocEvent × Position)
marked_events_of events = map (λ e. (doc_event_of e.0, e.1)) events

-- Events without where they lie in memory.
use Rattle.std.specs.Prelude.{ℕ, List, Option}
use Rattle.std.specs.Option.{option_map}
use Rattle.yaml_base.specs.declared.event.ScalarStyle.{ScalarStyle}
use Rattle.yaml_base.specs.declared.event.Scalar.{Scalar}
use Rattle.yaml_base.specs.declared.event.Event.{Event}
use Rattle.yaml_base.specs.declared.event.Event.TheVariants as event

-- a scalar: its text, how it stands in the source, and the slice of the source where that is known
pub record PlainScalar : Type 0 where
  pub anchor : Option (List ℕ)
  pub tag : Option (List ℕ)
  pub text : List ℕ
  pub style : ScalarStyle
  pub source : Option (List ℕ)

-- an event
pub data PlainEvent : Type 0 where
  stream_start : PlainEvent
  stream_end : PlainEvent
  document_start : PlainEvent
  document_end : PlainEvent
  alias : (anchor : List ℕ) → PlainEvent
  scalar : PlainScalar → PlainEvent
  sequence_start : (anchor : Option (List ℕ)) → (tag : Option (List ℕ)) → PlainEvent
  sequence_end : PlainEvent
  mapping_start : (anchor : Option (List ℕ)) → (tag : Option (List ℕ)) → PlainEvent
  mapping_end : PlainEvent

-- the plain scalar of a scalar
abbrev pub scalar_of : Scalar → PlainScalar
scalar_of s = record {
  anchor = s.anchor;
  tag = s.tag;
  text = s.value.items;
  style = s.style;
  source = option_map (λ r. r.now) s.repr;
}

-- the plain event of an event
abbrev pub event_of : Event → PlainEvent
event_of event.StreamStart = stream_start
event_of event.StreamEnd = stream_end
event_of event.DocumentStart = document_start
event_of event.DocumentEnd = document_end
event_of (event.Alias anchor) = alias anchor
event_of (event.Scalar s) = scalar (scalar_of s)
event_of (event.SequenceStart start) = sequence_start start.anchor start.tag
event_of event.SequenceEnd = sequence_end
event_of (event.MappingStart start) = mapping_start start.anchor start.tag
event_of event.MappingEnd = mapping_end

-- What events say, but for where they stand.
use Rattle.std.specs.Prelude.{List, None, map}
use Rattle.yaml_base.specs.PlainEvent.{PlainEvent, PlainScalar, alias, document_end, document_start, event_of}
use Rattle.yaml_base.specs.PlainEvent.{mapping_end, mapping_start, scalar, sequence_end, sequence_start, stream_end, stream_start}
use Rattle.yaml_base.specs.Position.{Position}
use Rattle.yaml_base.specs.declared.event.Event.{Event}

-- a scalar without the slice of the text that it was read from: its anchor, its tag, what it says, and its style
abbrev pub said_by_scalar : PlainScalar → PlainScalar
said_by_scalar s = record { anchor = s.anchor; tag = s.tag; text = s.text; style = s.style; source = None }

-- an event without that slice
abbrev pub said_by : PlainEvent → PlainEvent
said_by stream_start = stream_start
said_by stream_end = stream_end
said_by document_start = document_start
said_by document_end = document_end
said_by (alias anchor) = alias anchor
said_by (scalar s) = scalar (said_by_scalar s)
said_by (sequence_start anchor tag) = sequence_start anchor tag
said_by sequence_end = sequence_end
said_by (mapping_start anchor tag) = mapping_start anchor tag
said_by mapping_end = mapping_end

-- events without those slices and their marks
abbrev pub said : List (Event × Position) → List PlainEvent
said events = map (λ e. said_by (event_of e.0)) events

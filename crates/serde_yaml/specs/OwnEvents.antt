-- Events that show nothing of their source.
use Rattle.std.specs.Prelude.{map, None}
use Rattle.yaml_base.specs.PlainEvent.{PlainEvent, scalar}
use Rattle.yaml_read.specs.Documents.{Input}

-- the event, without the slice of the source that it shows
abbrev pub event_alone : PlainEvent → PlainEvent
event_alone (scalar s) = scalar (record s { source = None })
event_alone e = e

-- each event so, with its mark
abbrev pub events_alone : Input → Input
events_alone input = map (λ e. (event_alone e.0, e.1)) input

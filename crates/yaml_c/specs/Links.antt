-- What rows link to, and how far readings go of the documents that they show.
use Rattle.std.specs.Prelude.{ℕ, ◌+◌, ◌-◌, ◌*◌, ◌^◌, min}
use Rattle.yaml_base.specs.PlainDocEvent.{PlainDocEvent, alias_to, mapping_begins, sequence_begins}
use Rattle.yaml_c.specs.Rows.{Reach}
use Rattle.yaml_read.specs.TreeReader.{default_limits}

-- a number as a field of a row holds it: itself, or the greatest one that there is room for
abbrev pub in_field : ℕ → ℕ
in_field n = min n (2 ^ 64 - 1)

-- The link of an event of a document that begins in row `at`, whose first event is in the row behind that: of an
-- alias the row of its target, of a collection that begins the row of its end, which is the event `end`; of any other
-- event 0.
abbrev pub event_link : (at end : ℕ) → PlainDocEvent → ℕ
event_link at end (alias_to target) = in_field (at + 1 + target)
event_link at end (sequence_begins tag) = in_field (at + 1 + end)
event_link at end (mapping_begins tag) = in_field (at + 1 + end)
event_link at end other = 0

-- A document of so many events that begins in row `at`: 128 nestings, and 100 follows of aliases for each event. Its
-- end stands in the row behind those of its events.
abbrev pub document_reach : (at events : ℕ) → Reach
document_reach at events = record {
  nestings = default_limits.nesting;
  follows = in_field (default_limits.follows * events);
  last = in_field (at + 1 + events);
}

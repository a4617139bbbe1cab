-- The first merge key of what is left, with what is open there, is that of all.
use Rattle.std.proofs.Common.{◌≡◌, drop, reverse}
use Rattle.yaml_base.specs.DocEventView.{marked_events_of}
use Rattle.yaml_merge.specs.MergeKeys.{first_key_from, first_merge_key}
use Rattle.yaml_merge.proofs.first.first_merge_key.Given as goal

abbrev pub invariant-loop-event : goal.invariant-loop-event
invariant-loop-event l =
    (l.place ≡ l.event-index)
    × (first_key_from (marked_events_of l.nodes.events.now) l.place (reverse l.open.items)
    (marked_events_of (drop l.event-index l.nodes.events.now))
    ≡ first_merge_key (marked_events_of l.nodes.events.now))

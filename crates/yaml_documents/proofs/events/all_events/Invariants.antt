-- The events that were handed out are listed.
use Rattle.std.proofs.Common.{◌≡◌, ◌-◌, length}
use Rattle.yaml_documents.proofs.events.all_events.Given as goal

abbrev pub invariant-events : goal.invariant-events
invariant-events l = (l.events.text ≡ l.fn.events.text) × (l.all.items ≡ l.events.given)

abbrev pub decreases-events : goal.decreases-events
decreases-events l = 0x10000000000000000 - length l.all.items

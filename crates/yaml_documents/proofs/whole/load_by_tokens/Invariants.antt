-- The builder took the events that were handed out.
use Rattle.std.proofs.Common.{◌≡◌, ◌-◌, length}
use Rattle.yaml_base.specs.MarkedEvents.{plain_marked}
use Rattle.yaml_documents.proofs.whole.load_by_tokens.Given as goal

abbrev pub invariant-events : goal.invariant-events
invariant-events l = (l.events.text ≡ l.fn.text) × (l.builder ≡ plain_marked l.events.given)

abbrev pub decreases-events : goal.decreases-events
decreases-events l = 0x10000000000000000 - length l.builder

-- The builder took the events that were handed out.
use Rattle.std.proofs.Common.{◌≡◌, ◌-◌, length}
use Rattle.yaml_base.specs.MarkedEvents.{plain_marked}
use Rattle.yaml_checked.specs.OfText.{IsOfText}
use Rattle.yaml_documents.proofs.direct.hand_over.Given as goal

abbrev pub invariant-events : goal.invariant-events
invariant-events l =
    (l.events.text ≡ l.fn.events.text) × (l.builder ≡ plain_marked l.events.given)
    × (IsOfText l.fn.events → IsOfText l.events)

abbrev pub decreases-events : goal.decreases-events
decreases-events l = 0x10000000000000000 - length l.builder

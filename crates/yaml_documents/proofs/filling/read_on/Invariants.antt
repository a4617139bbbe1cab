-- The loader took the events that were read, and no document ended with one of them.
use Rattle.std.proofs.Common.{◌≡◌, ◌≤◌, ◌-◌, None, length}
use Rattle.yaml_documents.proofs.filling.read_on.Given as goal
use Rattle.yaml_documents.specs.inner.Filling.{ReadsOn}
use Rattle.yaml_documents.specs.inner.Sources.{Stays}

abbrev pub invariant-events : goal.invariant-events
invariant-events l =
    Stays l.fn.events l.events × ReadsOn l.fn.events.given l.fn.builder l.events.given l.builder None
    × (l.left ≤ l.initial.left)

abbrev pub decreases-events : goal.decreases-events
decreases-events l = 0x10000000000000000 - length l.builder

-- Documents were read, and nothing behind the last.
use Rattle.std.proofs.Common.{◌≡◌}
use Rattle.yaml_documents.proofs.filling.fill.Given as goal
use Rattle.yaml_documents.specs.inner.Filling.{IsFull}
use Rattle.yaml_documents.specs.inner.Sources.{Stays}

abbrev pub invariant-documents : goal.invariant-documents
invariant-documents l =
    Stays l.fn.events l.events
    × IsFull l.fn.events.text l.fn.events.given l.fn.builder l.events.given l.builder

abbrev pub decreases-documents : goal.decreases-documents
decreases-documents l = l.missing

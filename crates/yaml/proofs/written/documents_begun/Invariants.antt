-- What was counted, with what begins in the events that are left, is what begins in all.
use Rattle.std.proofs.Common.{◌≡◌, ◌≤◌, ◌+◌, drop, map}
use Rattle.yaml.specs.WrittenDocument.{documents_begun}
use Rattle.yaml_base.specs.EmitEvents.{emit_of}
use Rattle.yaml.proofs.written.documents_begun.Given as goal

abbrev pub invariant-loop-event : goal.invariant-loop-event
invariant-loop-event l =
    (l.begun + documents_begun (map emit_of (drop l.event-index l.events)) ≡ documents_begun (map emit_of l.events))
    × (l.begun ≤ l.event-index)

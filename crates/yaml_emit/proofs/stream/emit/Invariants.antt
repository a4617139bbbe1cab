-- The emitter has taken the events so far.
use Rattle.std.proofs.Common.{◌≡◌, map, take}
use Rattle.yaml_base.specs.EmitEvents.{emit_of}
use Rattle.yaml_emit.proofs.stream.emit.Given as goal

abbrev pub invariant-loop-event : goal.invariant-loop-event
invariant-loop-event l = l.emitter.taken ≡ map emit_of (take l.event-index l.events)

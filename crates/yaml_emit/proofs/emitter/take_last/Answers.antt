-- The event that is held back is the last.
use Rattle.std.proofs.Common.{Some, subst, sym}
use Rattle.yaml_base.specs.EmitEvents.{emit_of}
use Rattle.yaml_emit.specs.Emitting.{Ends, held_events}
use Rattle.yaml_emit.specs.LayoutMachine.{laid, printed_from}
use Rattle.yaml_emit.proofs.EmitterLaws.{ends_by}
use Rattle.yaml_emit.proofs.emitter.take_last.Goals as goal

pub returns-in-Some : goal.returns-in-Some
returns-in-Some c =
    subst (λ held. Ends (printed_from (Some (laid c.args.layout.now)) (held_events held)) (laid c.take_one.new.layout)
    c.take_one.result) (sym c.in-Some.is)
    (ends_by (laid c.args.layout.now) (laid c.take_one.new.layout) (emit_of c.in-Some.start) c.take_one.result
    c.take_one.ensures)

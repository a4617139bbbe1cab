-- What is held back may not stand there.
use Rattle.std.proofs.Common.{◌≤◌, arith, refl}
use Rattle.std.specs.Option.{option_map}
use Rattle.yaml_base.specs.EmitEvents.{emit_scalar}
use Rattle.yaml_emit.specs.LayoutMachine.{laid}
use Rattle.yaml_emit.proofs.EmitterLaws.{wrong_behind}
use Rattle.yaml_emit.proofs.emitter.Printing.take_scalar.Goals as goal

pub returns-in-Err-clause-taken : goal.returns-in-Err-clause-taken
returns-in-Err-clause-taken c =
    let counted = c.saturating_sub.ensures in
    let small : c.saturating_sub.result ≤ c.args.self.now.count = omega (arith, counted) in
    wrong_behind c.stopped.result c.in-Err.stop c.args.self.now c.stopped.new.self c.saturating_sub.result
    (emit_scalar (option_map (λ t. t.now) c.args.tag) c.args.text.now c.args.style) (laid c.take_begun.new.layout)
    c.in-Going.is small (c.in-Err.ensures.run _ refl refl) c.stopped.ensures.ok

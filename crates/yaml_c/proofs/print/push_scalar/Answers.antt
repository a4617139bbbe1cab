-- The number stands plain.
use Rattle.std.proofs.Common.{ap, option_map}
use Rattle.yaml_base.specs.EmitEvents.{emit_scalar}
use Rattle.yaml_base.specs.declared.emitter.AskedStyle.TheVariants as asked
use Rattle.yaml_emit.specs.Emitted.{Emitted}
use Rattle.yaml_c.proofs.EachLaws.{number_row}
use Rattle.yaml_c.proofs.print.push_scalar.Goals as goal

pub returns-in_ok-push_scalar-in-Some-clause-added : goal.returns-in_ok-push_scalar-in-Some-clause-added
returns-in_ok-push_scalar-in-Some-clause-added c = λ same. record {
  event = emit_scalar (option_map (λ t. t.now) c.args.tag) c.in-Some.text.now asked.Plain;
  of_row = number_row c.args.texts.source.now c.args.texts.texts.now c.args.row.now _ _ c.in-Some.ensures.text same;
  added = ap (λ (e : Emitted). e.taken) c.in_ok-push_scalar-in-Some.ensures.taken;
}

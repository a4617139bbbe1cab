-- The string is asked in its style.
use Rattle.std.proofs.Common.{ap, option_map}
use Rattle.yaml_base.specs.EmitEvents.{emit_scalar}
use Rattle.yaml_emit.specs.Emitted.{Emitted}
use Rattle.yaml_c.proofs.EachLaws.{string_row}
use Rattle.yaml_c.proofs.print.push_string.Goals as goal

pub returns-clause-added : goal.returns-clause-added
returns-clause-added c = λ kind same. record {
  event = emit_scalar (option_map (λ t. t.now) c.args.tag) c.in-Some.text.now c.asked_style.result;
  of_row = string_row c.args.texts.source.now c.args.texts.texts.now c.args.row.now _ _ _ kind c.in-Some.ensures.text
      c.asked_style.ensures same;
  added = ap (λ (e : Emitted). e.taken) c.in_ok-push_scalar.ensures.taken;
}

-- What is shown under the named shape is shown under its table.
use Rattle.std.proofs.Common.{string_bytes, subst, ap, ◌∙◌}
use Rattle.std.proofs.lemmas.Result.{IfOk-weaker}
use Rattle.yaml_shape.specs.PlainShape.{shape_at}
use Rattle.yaml_run.specs.Shown.{IsShown}
use Rattle.yaml_run.specs.declared.shapes.Named.TheVariants as named
use Rattle.yaml_run.proofs.Readings.{is_first}
use Rattle.yaml_tool.specs.Answers.{any_first, any_table}
use Rattle.yaml_tool.proofs.answer.shown.Goals as goal

pub returns : goal.returns
returns c =
    IfOk-weaker c.show_text.result
    (λ shown. IsShown c.args.limits c.in-Ok.schema any_first c.args.text.now (string_bytes shown.text)
    shown.faults.items)
    (λ shown. IsShown c.args.limits any_table any_first c.args.text.now (string_bytes shown.text) shown.faults.items)
    (λ shown is. subst (λ table. IsShown c.args.limits table any_first c.args.text.now (string_bytes shown.text)
    shown.faults.items) c.in-Ok.ensures.ok is)
    (c.show_text.ensures any_first (ap (λ t. shape_at t 0) c.in-Ok.ensures.ok ∙ is_first named.Any))

-- What is shown of a text is what it gives.
use Rattle.std.proofs.Common.{string_bytes}
use Rattle.std.proofs.lemmas.Result.{IfOk-weaker}
use Rattle.yaml_run.specs.Shown.{IsShown, Shows}
use Rattle.yaml_run.proofs.ShownLaws.{shows_text}
use Rattle.yaml_run.proofs.shown.show_text.Goals as goal

pub returns : goal.returns
returns c = λ s at.
    IfOk-weaker c.shown_of.result
    (λ shown. Shows c.data_from_slice-found.result (string_bytes shown.text) shown.faults.items)
    (λ shown. IsShown c.args.limits c.args.schema.now s c.args.text.now (string_bytes shown.text) shown.faults.items)
    (λ shown shows. shows_text c.args.limits c.args.schema.now s c.args.text.now c.data_from_slice-found.result
    (string_bytes shown.text) shown.faults.items (c.data_from_slice-found.ensures.given s at) shows)
    c.shown_of.ensures

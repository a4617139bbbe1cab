-- The documents of what the text was parsed to are shown in turn.
use Rattle.std.proofs.Common.{string_bytes, ap, ◌∙◌}
use Rattle.std.proofs.lemmas.Result.{IfOk-weaker}
use Rattle.serde_yaml.specs.TextReads.{IsParsed}
use Rattle.yaml_read.specs.Documents.{documents_of}
use Rattle.yaml_shape.specs.PlainShape.{shape_at}
use Rattle.yaml_run.proofs.Readings.{is_first}
use Rattle.yaml_run.specs.Shown.{AreShown}
use Rattle.yaml_run.specs.declared.shapes.Named.TheVariants as named
use Rattle.yaml_tool.specs.Answers.{any_first, any_table}
use Rattle.yaml_tool.proofs.ParsedLaws.{many-documents, shown-parsed}
use Rattle.yaml_tool.proofs.answer.shown_in_turn.Goals as goal

pub returns : goal.returns
returns c =
    IfOk-weaker c.show_in_turn.result
    (λ shown. AreShown c.args.limits c.in-Ok.schema any_first c.in-Ok-from_slice.stream.documents
    (string_bytes shown.text) shown.faults.items)
    (λ shown. IsParsed c.args.text.now
    (λ events fault. AreShown c.args.limits any_table any_first (documents_of events fault) (string_bytes shown.text)
    shown.faults.items))
    (λ shown turns. shown-parsed c.args.text.now c.args.limits c.in-Ok.schema any_table any_first
    c.in-Ok-from_slice.stream (string_bytes shown.text) shown.faults.items c.in-Ok.ensures.ok
    c.in-Ok-from_slice.ensures.documents turns)
    (c.show_in_turn.ensures any_first (ap (λ t. shape_at t 0) c.in-Ok.ensures.ok ∙ is_first named.Any)
    (many-documents c.args.text.now c.in-Ok-from_slice.stream c.in-Ok-from_slice.ensures.documents))

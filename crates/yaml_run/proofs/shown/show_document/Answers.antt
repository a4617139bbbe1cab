-- What is shown of a document is what it gives.
use Rattle.std.proofs.Common.{string_bytes}
use Rattle.std.proofs.lemmas.Result.{IfOk-weaker}
use Rattle.yaml_run.specs.Shown.{IsOneShown, Shows}
use Rattle.yaml_run.proofs.ReadingLaws.{alone_gives}
use Rattle.yaml_run.proofs.ShownLaws.{shows_document}
use Rattle.yaml_run.proofs.shown.show_document.Goals as goal

pub returns : goal.returns
returns c = λ s d at is.
    IfOk-weaker c.shown_of.result
    (λ shown. Shows c.deserialize_limited-found.result (string_bytes shown.text) shown.faults.items)
    (λ shown. IsOneShown c.args.limits c.args.schema.now s d (string_bytes shown.text) shown.faults.items)
    (λ shown shows. shows_document c.args.limits c.args.schema.now s d c.deserialize_limited-found.result
    (string_bytes shown.text) shown.faults.items
    (alone_gives c.args.limits c.args.schema.now s d c.args.document c.deserialize_limited-found.result is
    (c.deserialize_limited-found.ensures.gives s at)) shows)
    c.shown_of.ensures

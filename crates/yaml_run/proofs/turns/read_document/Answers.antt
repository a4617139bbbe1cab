-- What is told of a document is what it gives.
use Rattle.std.proofs.Common.{string_bytes}
use Rattle.std.proofs.lemmas.Result.{IfOk-weaker}
use Rattle.yaml_run.specs.Told.{Tells}
use Rattle.yaml_run.specs.Turns.{IsToldOf}
use Rattle.yaml_run.proofs.ReadingLaws.{alone_gives, tells_document}
use Rattle.yaml_run.proofs.turns.read_document.Goals as goal

pub returns : goal.returns
returns c = λ s d at is.
    IfOk-weaker c.told_of.result
    (λ told. Tells c.args.audience c.deserialize_limited-found.result told.ended (string_bytes told.text))
    (λ told. IsToldOf c.args.audience c.args.limits c.args.schema.now s d told.ended (string_bytes told.text))
    (λ told tells. tells_document c.args.limits c.args.schema.now s c.args.audience d c.deserialize_limited-found.result
    told.ended (string_bytes told.text)
    (alone_gives c.args.limits c.args.schema.now s d c.args.document c.deserialize_limited-found.result is
    (c.deserialize_limited-found.ensures.gives s at)) tells)
    c.told_of.ensures

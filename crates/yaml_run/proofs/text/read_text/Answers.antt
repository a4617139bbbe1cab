-- What is told of a text is what it gives.
use Rattle.std.proofs.Common.{string_bytes}
use Rattle.std.proofs.lemmas.Result.{IfOk-weaker}
use Rattle.yaml_run.specs.TextReadings.{IsTextReading}
use Rattle.yaml_run.specs.Told.{Tells}
use Rattle.yaml_run.proofs.ReadingLaws.{tells_text}
use Rattle.yaml_run.proofs.text.read_text.Goals as goal

pub returns : goal.returns
returns c = λ s at.
    IfOk-weaker c.told_of.result
    (λ told. Tells c.args.audience c.data_from_slice-found.result told.ended (string_bytes told.text))
    (λ told. IsTextReading c.args.audience c.args.limits c.args.schema.now s c.args.text.now told.ended
    (string_bytes told.text))
    (λ told tells. tells_text c.args.limits c.args.schema.now s c.args.audience c.args.text.now
    c.data_from_slice-found.result
    told.ended (string_bytes told.text) (c.data_from_slice-found.ensures.given s at) tells)
    c.told_of.ensures

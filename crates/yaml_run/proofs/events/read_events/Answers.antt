-- What is told of lines is what their events give.
use Rattle.std.proofs.Common.{string_bytes}
use Rattle.std.proofs.lemmas.Result.{IfOk-weaker}
use Rattle.yaml_lines.specs.InputText.{marked_events_of}
use Rattle.yaml_run.specs.EventReadings.{IsReading}
use Rattle.yaml_run.specs.EventReadings.IsReading.{bad_line}
use Rattle.yaml_run.specs.Told.{Tells, TellsBadLine}
use Rattle.yaml_run.specs.declared.audience.Audience.TheVariants.{Programs}
use Rattle.yaml_run.proofs.ReadingLaws.{tells_lines}
use Rattle.yaml_run.proofs.events.read_events.Goals as goal

pub returns-in-Ok : goal.returns-in-Ok
returns-in-Ok c = λ s at.
    IfOk-weaker c.told_of.result
    (λ told. Tells Programs c.content_of-found.result told.ended (string_bytes told.text))
    (λ told. IsReading c.args.limits c.args.schema.now s c.args.lines.now told.ended (string_bytes told.text))
    (λ told tells. tells_lines c.args.limits c.args.schema.now s c.args.lines.now
    (marked_events_of c.in-Ok.input.events.items) c.in-Ok.input.fault c.content_of-found.result told.ended
    (string_bytes told.text) c.in-Ok.ensures (c.content_of-found.ensures s at) tells)
    c.told_of.ensures

pub returns-in-Err-BadLine : goal.returns-in-Err-BadLine
returns-in-Err-BadLine c = λ s at.
    IfOk-weaker c.told_of_bad_line.result
    (λ told. TellsBadLine c.in-Err-BadLine.number told.ended (string_bytes told.text))
    (λ told. IsReading c.args.limits c.args.schema.now s c.args.lines.now told.ended (string_bytes told.text))
    (λ told tells. bad_line c.in-Err-BadLine.number (rw c.in-Err-BadLine.field-0-is at c.in-Err-BadLine.ensures)
    tells.0 tells.1)
    (rw c.in-Err-BadLine.number-is at c.told_of_bad_line.ensures)

-- What was written has its events, and a refusal is the writer's or the emitter's.
use Rattle.serde_yaml.specs.Printed.{written_as, printed_as, not_written, not_printed}
use Rattle.serde_yaml.proofs.PrintedLaws.{type_stream}
use Rattle.serde_yaml.proofs.printed.to_string.Goals as goal

pub returns-in-Err-clause-refused : goal.returns-in-Err-clause-refused
returns-in-Err-clause-refused g c = λ known. not_written _ (c.in-Err.ensures.written known)

pub returns-in-Ok-finished-clause-written : goal.returns-in-Ok-finished-clause-written
returns-in-Ok-finished-clause-written g c = written_as _ c.in-Ok.ensures.written

pub returns-in-Ok-finished-clause-text : goal.returns-in-Ok-finished-clause-text
returns-in-Ok-finished-clause-text g c =
    printed_as c.in-Ok.emitter.taken c.in-Ok.ensures.written c.in-Ok-finished.ensures.text

pub returns-in-Err-clause-unwritten : goal.returns-in-Err-clause-unwritten
returns-in-Err-clause-unwritten g c = λ known. c.in-Err.ensures.written known

pub returns-in-Err-finished-clause-refused : goal.returns-in-Err-finished-clause-refused
returns-in-Err-finished-clause-refused g c = λ known. not_printed _ (c.in-Err-finished.ensures.refused known)

pub returns-in-Err-finished-clause-unwritten : goal.returns-in-Err-finished-clause-unwritten
returns-in-Err-finished-clause-unwritten g c = λ known.
    absurd (c.in-Err-finished.ensures.no_stream known (type_stream _ _ _ _ c.in-Ok.ensures.written))

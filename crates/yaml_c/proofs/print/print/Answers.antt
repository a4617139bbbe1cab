-- What came of printing the events of the rows came of printing the rows.
use Rattle.std.proofs.Common.{ap, refl}
use Rattle.yaml_emit.specs.Emitted.{Emitted}
use Rattle.yaml_c.proofs.EachLaws.{printed_rows, refused_rows}
use Rattle.yaml_c.proofs.print.print.Goals as goal

pub returns-in-Ok : goal.returns-in-Ok
returns-in-Ok c =
    printed_rows c.args.texts.source.now c.args.texts.texts.now c.args.rows.now _ _ c.printed.result refl
    (c.in-Ok.ensures.added (ap (λ (e : Emitted). e.taken) c.new-emitter.ensures)) c.printed.ensures

pub returns-in-Err : goal.returns-in-Err
returns-in-Err c =
    refused_rows c.args.texts.source.now c.args.texts.texts.now c.args.rows.now c.in-Err.refusal c.refused.result
    c.refused.ensures c.in-Err.ensures.wrong

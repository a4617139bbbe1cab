-- One row more.
use Rattle.std.proofs.Common.{subst}
use Rattle.yaml_c.proofs.EachLaws.{adds_no_row, adds_one_row, stops_there}
use Rattle.yaml_c.proofs.print.push_rows.Goals as goal
use Rattle.yaml_c.specs.Refused.{IsWritten}
use Rattle.yaml_c.specs.inner.Printing.{IfWrong}

pub loop-row-init : goal.loop-row-init
loop-row-init c = adds_no_row c.args.texts.source.now c.args.texts.texts.now c.args.rows.now c.args.emitter.now.taken

pub loop-row-preserved : goal.loop-row-preserved
loop-row-preserved c =
    adds_one_row c.args.texts.source.now c.args.texts.texts.now c.args.rows.now _ _ c.args.emitter.now.taken _ _
    c.in-Some.row.now c.loop-row.invariant c.in-Some.ensures.cases.0 c.in-Ok.ensures.added

pub returns-in-Err-Wrong-clause-wrong : goal.returns-in-Err-Wrong-clause-wrong
returns-in-Err-Wrong-clause-wrong c =
    stops_there c.args.texts.source.now c.args.texts.texts.now c.args.rows.now _ _ c.args.emitter.now.taken _
    c.in-Some.row.now c.saturating_sub.result c.loop-row.invariant c.in-Some.ensures.cases.0 c.saturating_sub.ensures
    (subst (IfWrong (IsWritten c.args.texts.source.now c.args.texts.texts.now c.in-Some.row.now → ⊥))
    c.in-Err-Wrong.field-0-is c.in-Err-Wrong.ensures.wrong)

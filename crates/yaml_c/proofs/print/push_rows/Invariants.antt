-- The events of the first rows were added.
use Rattle.std.proofs.Common.{length}
use Rattle.yaml_c.proofs.print.push_rows.Given as goal
use Rattle.yaml_c.specs.inner.Printing.{AddsFirst}

abbrev pub invariant-loop-row : goal.invariant-loop-row
invariant-loop-row l = AddsFirst l.fn.rows l.left l.fn.texts.source.now l.fn.texts.texts.now l.fn.emitter.taken
    l.emitter.taken

abbrev pub decreases-loop-row : goal.decreases-loop-row
decreases-loop-row l = length l.left

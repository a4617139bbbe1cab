-- One entry more has no names, or a greater number than all before it.
use Rattle.yaml_checked.proofs.NameLaws.{rise_by, rise_up}
use Rattle.yaml_checked.proofs.names.names_rise.Goals as goal
use Rattle.yaml_checked.proofs.names.names_rise.Goals.{then-entry-ne0+else-entry-last, else-entry-ne0}

pub loop-entry-preserved : goal.loop-entry-preserved
loop-entry-preserved c = elim c.if-entry-ne0.branch [
  | then-entry-ne0+else-entry-last w ↦
      rise_up _ c.loop-entry.invariant c.loop-entry-test.true w.if-entry-last.false w.last-is
  | else-entry-ne0 w ↦ rise_by _ c.loop-entry.invariant c.loop-entry-test.true w.if-entry-ne0.false w.last-is
]

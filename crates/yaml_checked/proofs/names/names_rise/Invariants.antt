-- Each entry that was looked at has no names, or a greater number than all before it.
use Rattle.yaml_checked.proofs.names.names_rise.Given as goal
use Rattle.yaml_checked.specs.inner.EntryNames.{RiseTo}

abbrev pub invariant-loop-entry : goal.invariant-loop-entry
invariant-loop-entry l = RiseTo l.entries l.entry-index l.last

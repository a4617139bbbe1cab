-- The entries that were looked at stand in the text, and none begins behind the last.
use Rattle.std.proofs.Common.{take}
use Rattle.yaml_checked.proofs.standing.stands.Given as goal
use Rattle.yaml_checked.specs.inner.EntryStands.{EntriesStand}

abbrev pub invariant-loop-entry : goal.invariant-loop-entry
invariant-loop-entry l = EntriesStand l.tape l.last (take l.entry-index l.tape.entries.items)

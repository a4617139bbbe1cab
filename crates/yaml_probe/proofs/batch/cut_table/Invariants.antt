-- The rest grows shorter, and is never longer than the text.
use Rattle.std.proofs.Common.{◌≤◌, length}
use Rattle.yaml_probe.proofs.batch.cut_table.Given as goal

abbrev pub invariant-lines : goal.invariant-lines
invariant-lines l = length l.rest ≤ length l.text

abbrev pub decreases-lines : goal.decreases-lines
decreases-lines l = length l.rest

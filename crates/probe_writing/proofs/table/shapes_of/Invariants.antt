-- Each line has a byte at least.
use Rattle.std.proofs.Common.{◌+◌, ◌≤◌, length}
use Rattle.probe_writing.proofs.table.shapes_of.Given as goal

abbrev pub invariant-loop-rest : goal.invariant-loop-rest
invariant-loop-rest l = l.number + length l.rest ≤ length l.text

abbrev pub decreases-loop-rest : goal.decreases-loop-rest
decreases-loop-rest l = length l.rest

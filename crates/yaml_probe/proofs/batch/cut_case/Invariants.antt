-- The rest grows shorter, and is never longer than the text.
use Rattle.std.proofs.Common.{◌≤◌, length}
use Rattle.yaml_probe.proofs.batch.cut_case.Given as goal

abbrev pub invariant-rest : goal.invariant-rest
invariant-rest l = length l.rest ≤ length l.text

abbrev pub decreases-rest : goal.decreases-rest
decreases-rest l = length l.rest

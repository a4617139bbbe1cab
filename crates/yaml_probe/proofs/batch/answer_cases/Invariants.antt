-- The rest grows shorter, and is never longer than the text.
use Rattle.std.proofs.Common.{◌≤◌, length}
use Rattle.yaml_probe.proofs.batch.answer_cases.Given as goal

abbrev pub invariant-cases : goal.invariant-cases
invariant-cases l = length l.rest ≤ length l.text

abbrev pub decreases-cases : goal.decreases-cases
decreases-cases l = length l.rest

-- The rest grows shorter.
use Rattle.std.proofs.Common.{length}
use Rattle.yaml_probe.proofs.batch.answer_all.Given as goal

abbrev pub decreases-tables : goal.decreases-tables
decreases-tables l = length l.rest

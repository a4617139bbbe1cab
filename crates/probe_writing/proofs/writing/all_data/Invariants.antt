-- The rest grows shorter.
use Rattle.std.proofs.Common.{length}
use Rattle.probe_writing.proofs.writing.all_data.Given as goal

abbrev pub decreases-loop-rest : goal.decreases-loop-rest
decreases-loop-rest l = length l.rest

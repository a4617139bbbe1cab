-- The rest grows shorter.
use Rattle.std.proofs.Common.{length}
use Rattle.probe_writing.proofs.emitting.all_events.Given as goal

abbrev pub decreases-loop-rest : goal.decreases-loop-rest
decreases-loop-rest l = length l.rest

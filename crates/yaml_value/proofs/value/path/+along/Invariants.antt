-- What is left of the path gets shorter.
use Rattle.std.proofs.Common.{length}
use Rattle.yaml_value.proofs.value.path.+along.Given as goal

abbrev pub decreases-along : goal.decreases-along
decreases-along l = length l.path.now

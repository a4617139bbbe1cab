-- The text of steps is read from its first character to its last.
use Rattle.yaml_query.proofs.PathLaws.{printed_steps}
use Rattle.yaml_query.proofs.laws.printed_steps_are_read.Goals as goal

pub returns : goal.returns
returns c = printed_steps

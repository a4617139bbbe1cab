-- By the reader.
use Rattle.yaml_reading.proofs.BracketReading.{one_node}
use Rattle.yaml_reading.proofs.a_node_in_brackets_has_one_reading.Goals as goal

pub returns : goal.returns
returns c = one_node

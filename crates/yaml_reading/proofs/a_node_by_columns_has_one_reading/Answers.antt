-- By the reader.
use Rattle.yaml_reading.proofs.BlockReading.{one_block_node}
use Rattle.yaml_reading.proofs.a_node_by_columns_has_one_reading.Goals as goal

pub returns : goal.returns
returns c = one_block_node

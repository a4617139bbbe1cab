-- Both ways.
use Rattle.yaml_reading.proofs.BlockReading.{block_read, block_stands}
use Rattle.yaml_reading.proofs.nodes_by_columns_are_read.Goals as goal

pub returns-clause-read : goal.returns-clause-read
returns-clause-read c = block_read

pub returns-clause-stand : goal.returns-clause-stand
returns-clause-stand c = block_stands

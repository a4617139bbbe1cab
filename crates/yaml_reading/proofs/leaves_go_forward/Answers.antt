-- By their parts.
use Rattle.yaml_reading.proofs.LeafReading.{block_forward, leaf_forward, names_forward}
use Rattle.yaml_reading.proofs.leaves_go_forward.Goals as goal

pub returns-clause-names : goal.returns-clause-names
returns-clause-names c = names_forward

pub returns-clause-leaf : goal.returns-clause-leaf
returns-clause-leaf c = leaf_forward

pub returns-clause-block : goal.returns-clause-block
returns-clause-block c = block_forward

-- Byte by byte.
use Rattle.yaml_reading.proofs.LeafReading.{key_in_line, key_same}
use Rattle.yaml_reading.proofs.a_key_is_read_as_a_leaf.Goals as goal

pub returns-clause-same : goal.returns-clause-same
returns-clause-same c = key_same

pub returns-clause-in_line : goal.returns-clause-in_line
returns-clause-in_line c = key_in_line

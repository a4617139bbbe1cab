-- By the reader.
use Rattle.yaml_reading.proofs.BlockReading.{key_read, key_stands, one_key}
use Rattle.yaml_reading.proofs.a_key_has_one_reading.Goals as goal

pub returns-clause-one : goal.returns-clause-one
returns-clause-one c = one_key

pub returns-clause-read : goal.returns-clause-read
returns-clause-read c = key_read

pub returns-clause-stand : goal.returns-clause-stand
returns-clause-stand c = key_stands

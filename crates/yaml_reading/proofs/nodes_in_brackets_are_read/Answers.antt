-- Both ways.
use Rattle.yaml_reading.proofs.BracketReading.{flow_read, flow_stands}
use Rattle.yaml_reading.proofs.nodes_in_brackets_are_read.Goals as goal

pub returns-clause-read : goal.returns-clause-read
returns-clause-read c = flow_read

pub returns-clause-stand : goal.returns-clause-stand
returns-clause-stand c = flow_stands

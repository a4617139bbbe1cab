-- Simple data is written, and nothing in it is lost.
use Rattle.yaml_round.proofs.SimpleFits.{simple_fits}
use Rattle.yaml_round.proofs.laws.simple_data_fits.Goals as goal

pub returns : goal.returns
returns c = λ nesting table id d has simple nests. simple_fits table nesting id d has simple nests

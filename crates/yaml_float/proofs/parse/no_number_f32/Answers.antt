-- What its bits say.
use Rattle.std.proofs.Common.{refl}
use lib.Ieee.{of_bits}
use Rattle.yaml_float.proofs.parse.no_number_f32.Goals as goal

pub returns : goal.returns
unfolding of_bits
returns c = refl

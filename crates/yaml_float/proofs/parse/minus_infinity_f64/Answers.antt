-- What its bits say.
use Rattle.std.proofs.Common.{refl}
use lib.Ieee.{of_bits}
use Rattle.yaml_float.proofs.parse.minus_infinity_f64.Goals as goal

pub returns : goal.returns
unfolding of_bits
returns c = refl

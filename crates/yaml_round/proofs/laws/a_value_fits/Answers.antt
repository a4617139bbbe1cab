-- By its parts.
use Rattle.yaml_round.proofs.PartsFit.{value_fits}
use Rattle.yaml_round.proofs.laws.a_value_fits.Goals as goal

pub returns : goal.returns
returns c = λ nesting table id v e at writes nests fits. value_fits table nesting id v e at writes nests fits

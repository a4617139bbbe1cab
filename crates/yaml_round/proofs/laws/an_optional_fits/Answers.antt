-- By its parts.
use Rattle.yaml_round.proofs.PartsFit.{optional_fits}
use Rattle.yaml_round.proofs.laws.an_optional_fits.Goals as goal

pub returns : goal.returns
returns c = λ nesting table id inner d at fits present. optional_fits table nesting id inner d at fits present

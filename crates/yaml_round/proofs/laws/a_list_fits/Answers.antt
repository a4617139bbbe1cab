-- By its parts.
use Rattle.yaml_round.proofs.PartsFit.{list_fits}
use Rattle.yaml_round.proofs.laws.a_list_fits.Goals as goal

pub returns : goal.returns
returns c = λ nesting table id element ds at fits. list_fits table nesting id element ds at fits

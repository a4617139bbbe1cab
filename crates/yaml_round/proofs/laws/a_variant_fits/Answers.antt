-- By its parts.
use Rattle.yaml_round.proofs.PartsFit.{variant_fits}
use Rattle.yaml_round.proofs.laws.a_variant_fits.Goals as goal

pub returns : goal.returns
returns c = λ nesting table id inner place name owner variants d e at there named has writes nests fits.
    variant_fits table nesting id inner place name owner variants d e at there named has writes nests fits

-- By the bytes of the text.
use Rattle.yaml_printed.proofs.SimpleFits.{simple_fits}
use Rattle.yaml_printed.proofs.a_simple_text_may_stand_plain.Goals as goal

pub returns : goal.returns
returns c = simple_fits

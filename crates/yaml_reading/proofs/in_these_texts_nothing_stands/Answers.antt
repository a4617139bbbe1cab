-- By what the reader reads.
use Rattle.yaml_reading.proofs.RefusedTexts.{nothing_stands_in_these}
use Rattle.yaml_reading.proofs.in_these_texts_nothing_stands.Goals as goal

pub returns : goal.returns
returns c = nothing_stands_in_these

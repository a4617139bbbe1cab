-- By what the reader reads.
use Rattle.yaml_reading.proofs.RefusedTexts.{most_open_stand, nothing_stands_in_these_either}
use Rattle.yaml_reading.proofs.these_texts_are_left_out.Goals as goal

pub returns-clause-nothing : goal.returns-clause-nothing
returns-clause-nothing c = nothing_stands_in_these_either

pub returns-clause-most : goal.returns-clause-most
returns-clause-most c = most_open_stand

-- Both ways.
use Rattle.yaml_reading.proofs.DocumentLaws.{nothing_read, text_read, text_stands}
use Rattle.yaml_reading.proofs.texts_are_read.Goals as goal

pub returns-clause-read : goal.returns-clause-read
returns-clause-read c = text_read

pub returns-clause-stand : goal.returns-clause-stand
returns-clause-stand c = text_stands

pub returns-clause-nothing : goal.returns-clause-nothing
returns-clause-nothing c = nothing_read

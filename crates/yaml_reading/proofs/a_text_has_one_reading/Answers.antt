-- By the reader.
use Rattle.yaml_reading.proofs.DocumentLaws.{one_text}
use Rattle.yaml_reading.proofs.a_text_has_one_reading.Goals as goal

pub returns : goal.returns
returns c = one_text

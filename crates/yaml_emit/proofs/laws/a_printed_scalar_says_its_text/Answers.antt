-- What is printed of a scalar says its text.
use Rattle.yaml_emit.proofs.SaidLaws.{says}
use Rattle.yaml_emit.proofs.laws.a_printed_scalar_says_its_text.Goals as goal

pub returns : goal.returns
returns c = λ indent asked key text u. says indent text u asked key

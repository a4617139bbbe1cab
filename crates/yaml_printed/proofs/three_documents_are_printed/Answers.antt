-- By lemmas on trees.
use Rattle.yaml_printed.proofs.ExampleLaws.{three_are_printed}
use Rattle.yaml_printed.proofs.three_documents_are_printed.Goals as goal

pub returns : goal.returns
returns c = three_are_printed

-- The law is a lemma.
use Rattle.yaml_load.proofs.CutLaws.{all_fronts}
use Rattle.yaml_load.proofs.stream_law.a_document_holds_the_front_of_its_node.Goals as goal

pub returns : goal.returns
returns c = all_fronts

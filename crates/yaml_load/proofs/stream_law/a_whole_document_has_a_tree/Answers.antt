-- The law is a lemma.
use Rattle.yaml_load.proofs.StreamTrees.{whole_has_tree}
use Rattle.yaml_load.proofs.stream_law.a_whole_document_has_a_tree.Goals as goal

pub returns : goal.returns
returns c = whole_has_tree

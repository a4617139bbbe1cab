-- The law is a lemma.
use Rattle.yaml_load.proofs.StreamTrees.{has_some}
use Rattle.yaml_load.proofs.stream_law.a_stream_has_a_document.Goals as goal

pub returns : goal.returns
returns c = has_some

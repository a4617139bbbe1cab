-- The law is a lemma.
use Rattle.yaml_load.proofs.StreamTrees.{documents_of_stream}
use Rattle.yaml_load.proofs.stream_law.a_stream_is_cut_into_its_documents.Goals as goal

pub returns : goal.returns
returns c = documents_of_stream

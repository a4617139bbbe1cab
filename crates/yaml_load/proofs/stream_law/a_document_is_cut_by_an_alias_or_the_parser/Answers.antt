-- The law is a lemma.
use Rattle.yaml_load.proofs.StreamEndings.{all_endings}
use Rattle.yaml_load.proofs.stream_law.a_document_is_cut_by_an_alias_or_the_parser.Goals as goal

pub returns : goal.returns
returns c = all_endings

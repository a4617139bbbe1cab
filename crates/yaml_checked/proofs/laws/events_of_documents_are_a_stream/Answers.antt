-- Node by node.
use Rattle.yaml_checked.proofs.StreamEvents.{events_are_a_stream}
use Rattle.yaml_checked.proofs.laws.events_of_documents_are_a_stream.Goals as goal

pub returns : goal.returns
returns c = events_are_a_stream

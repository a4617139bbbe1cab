-- Event by event.
use Rattle.yaml_reading.proofs.SameNodes.{same_events}
use Rattle.yaml_reading.proofs.events_tell_their_documents.Goals as goal

pub returns : goal.returns
returns c = same_events

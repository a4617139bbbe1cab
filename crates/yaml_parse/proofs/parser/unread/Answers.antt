-- No events are a beginning of a stream.
use Rattle.yaml_parse.proofs.Streams.{none_yet}
use Rattle.yaml_parse.proofs.parser.unread.Goals as goal

pub returns-clause-taken : goal.returns-clause-taken
returns-clause-taken c = none_yet

-- By lemmas on data.
use Rattle.yaml_printed.proofs.WrittenStreams.{may_be_printed}
use Rattle.yaml_printed.proofs.what_is_written_may_be_printed.Goals as goal

pub returns : goal.returns
returns c = may_be_printed

-- What a document gives, where others may follow.
use Rattle.std.proofs.Common.{Err}
use Rattle.serde_yaml.proofs.FirstDocument.{fault_stays}
use Rattle.serde_yaml.proofs.de.alone.read_first_alone.Goals as goal

pub returns-in-Err : goal.returns-in-Err
returns-in-Err c = λ m. (Err c.in-Err.fault, c.in-Err.ensures.gives m, fault_stays c.args.others c.in-Err.fault)

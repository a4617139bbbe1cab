-- Each entry is a pair.
use Rattle.std.proofs.Common.{sym}
use Rattle.yaml_value.proofs.Views.{pair_count-entries}
use Rattle.yaml_value.proofs.mapping.count.Goals as goal

pub returns-clause-pairs : goal.returns-clause-pairs
returns-clause-pairs c = sym (pair_count-entries c.args.entries.now)

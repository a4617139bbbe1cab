-- No pair is counted.
use Rattle.std.proofs.Common.{ap}
use Rattle.std.specs.Prelude.{nat_eq}
use Rattle.yaml_tree.proofs.Views.{is_empty-pairs}
use Rattle.yaml_tree.proofs.mapping.Mapping.is_empty.Goals as goal

pub returns : goal.returns
returns c = is_empty-pairs _ _ (ap (λ n. nat_eq n 0) c.len.ensures)

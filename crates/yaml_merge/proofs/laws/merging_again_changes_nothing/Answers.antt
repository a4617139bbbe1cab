-- A merged tree has no merge key, so it stays.
use Rattle.yaml_merge.specs.MergedTree.{merged}
use Rattle.yaml_merge.proofs.Clean.{clean}
use Rattle.yaml_merge.proofs.MergedLaws.{stays}
use Rattle.yaml_merge.proofs.laws.merging_again_changes_nothing.Goals as goal

pub returns : goal.returns
returns c = λ same tree. stays same (merged same tree) (clean same tree)

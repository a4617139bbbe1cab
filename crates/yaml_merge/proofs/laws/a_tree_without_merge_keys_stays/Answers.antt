-- Part by part nothing is merged.
use Rattle.yaml_merge.proofs.MergedLaws.{stays}
use Rattle.yaml_merge.proofs.laws.a_tree_without_merge_keys_stays.Goals as goal

pub returns : goal.returns
returns c = stays

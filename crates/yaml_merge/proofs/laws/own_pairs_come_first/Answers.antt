-- Each pair that is given stands behind those before.
use Rattle.yaml_merge.specs.MergedTree.{given_mappings, own_pairs}
use Rattle.yaml_merge.proofs.MergedLaws.{begins}
use Rattle.yaml_merge.proofs.laws.own_pairs_come_first.Goals as goal

pub returns : goal.returns
returns c = λ same ps. begins same (given_mappings ps) (own_pairs ps)

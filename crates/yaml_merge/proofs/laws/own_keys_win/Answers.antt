-- Each pair that is given stands only where its key is not there.
use Rattle.yaml_merge.specs.MergedTree.{given_mappings, own_pairs}
use Rattle.yaml_merge.proofs.MergedLaws.{at_key}
use Rattle.yaml_merge.proofs.laws.own_keys_win.Goals as goal

pub returns : goal.returns
returns c = λ same k ps e. at_key same e k (given_mappings ps) (own_pairs ps)

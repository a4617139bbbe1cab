-- Each pair that is given has a key that none before has.
use Rattle.yaml_merge.specs.MergedTree.{given_mappings, own_pairs}
use Rattle.yaml_merge.proofs.MergedLaws.{once}
use Rattle.yaml_merge.proofs.laws.no_key_is_given_twice.Goals as goal

pub returns : goal.returns
returns c = λ same ps e h all. once same e (given_mappings ps) (own_pairs ps) h all

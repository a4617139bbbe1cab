-- What is given comes from what is merged already.
use Rattle.yaml_merge.proofs.Clean.{clean}
use Rattle.yaml_merge.proofs.laws.no_merge_key_stays.Goals as goal

pub returns : goal.returns
returns c = clean

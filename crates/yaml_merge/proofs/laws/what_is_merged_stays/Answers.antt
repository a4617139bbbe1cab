-- What a document becomes has no merge key, so its tree has none.
use Rattle.yaml_merge.proofs.NoKeys.{stays_whole}
use Rattle.yaml_merge.proofs.laws.what_is_merged_stays.Goals as goal

pub returns : goal.returns
returns c = λ same document treated tree treats is. stays_whole same treated tree is treats.2

use Rattle.yaml_base.proofs.LocalNameLaws.{local_name-sound, local_name-complete}
use Rattle.yaml_base.proofs.local_tag.local_tags_have_their_names.Goals as goal

pub returns : goal.returns
returns c = λ tag name. (local_name-sound tag name, local_name-complete tag name)

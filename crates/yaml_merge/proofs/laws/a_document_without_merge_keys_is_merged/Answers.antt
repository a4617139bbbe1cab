-- Where no event is a merge key, no node is one, and the document stays.
use Rattle.yaml_merge.proofs.NoKeys.{has_merged_tree}
use Rattle.yaml_merge.proofs.laws.a_document_without_merge_keys_is_merged.Goals as goal

pub returns : goal.returns
returns c = λ same document treated root is none treats.
    has_merged_tree same document treated root is none (treats.0 none)

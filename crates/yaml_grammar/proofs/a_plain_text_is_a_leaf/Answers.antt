-- By the bytes of the text.
use Rattle.yaml_grammar.proofs.LeafLaws.{key_leaf, line_leaf}
use Rattle.yaml_grammar.proofs.a_plain_text_is_a_leaf.Goals as goal

pub returns-clause-key : goal.returns-clause-key
returns-clause-key c = key_leaf

pub returns-clause-line : goal.returns-clause-line
returns-clause-line c = line_leaf

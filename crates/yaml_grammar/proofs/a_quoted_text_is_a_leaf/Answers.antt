-- By what stands between the quotes.
use Rattle.yaml_grammar.proofs.LeafLaws.{double_leaf, single_leaf}
use Rattle.yaml_grammar.proofs.a_quoted_text_is_a_leaf.Goals as goal

pub returns-clause-single : goal.returns-clause-single
returns-clause-single c = single_leaf

pub returns-clause-double : goal.returns-clause-double
returns-clause-double c = double_leaf

-- Item by item.
use Rattle.yaml_grammar.proofs.ListLaws.{list_stands}
use Rattle.yaml_grammar.proofs.lines_of_items_are_a_list.Goals as goal

pub returns : goal.returns
returns c = list_stands

-- The key is in what is left of its chain, or nowhere.
use Rattle.yaml_tree.specs.Tree.{string}
use Rattle.yaml_tree.proofs.Indexed.{IsSought}
use Rattle.yaml_tree.proofs.value.text.find_in_chain.Given as goal

abbrev pub invariant-loop-left : goal.invariant-loop-left
invariant-loop-left l = IsSought l.chains (string l.text) l.entries l.left

abbrev pub decreases-loop-left : goal.decreases-loop-left
decreases-loop-left l = l.left

-- What is left to compare gives the answer.
use Rattle.std.proofs.Common.{◌≡◌, ◌+◌, drop, option_map}
use Rattle.yaml_tree.specs.Equal.{trees_eq}
use Rattle.yaml_tree.specs.Lookup.{has_all_pairs, place_of_key}
use Rattle.yaml_tree.specs.View.{tree_of, trees_of, entry_pairs}
use Rattle.yaml_tree.proofs.Indexed.{IsSought}
use Rattle.yaml_tree.proofs.value.equal.+same.Given as goal

abbrev pub invariant-same_items-loop-i : goal.invariant-same_items-loop-i
invariant-same_items-loop-i l =
    trees_eq (trees_of l.left) (trees_of l.right) ≡ trees_eq (trees_of (drop l.i l.left)) (trees_of (drop l.i l.right))

abbrev pub invariant-has_all_entries-loop-i : goal.invariant-has_all_entries-loop-i
invariant-has_all_entries-loop-i l =
    has_all_pairs (entry_pairs l.wanted) (entry_pairs l.entries)
    ≡ has_all_pairs (entry_pairs (drop l.i l.wanted)) (entry_pairs l.entries)

abbrev pub invariant-find_in_order-loop-i : goal.invariant-find_in_order-loop-i
invariant-find_in_order-loop-i l =
    place_of_key (tree_of l.key) (entry_pairs l.entries)
    ≡ option_map (λ n. l.i + n) (place_of_key (tree_of l.key) (entry_pairs (drop l.i l.entries)))

-- the key is in what is left of its chain, or nowhere
abbrev pub invariant-find_in_chain-loop-left : goal.invariant-find_in_chain-loop-left
invariant-find_in_chain-loop-left l = IsSought l.chains (tree_of l.key) l.entries l.left

abbrev pub decreases-find_in_chain-loop-left : goal.decreases-find_in_chain-loop-left
decreases-find_in_chain-loop-left l = l.left

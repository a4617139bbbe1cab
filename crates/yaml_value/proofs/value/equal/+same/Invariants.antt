-- What is left to compare gives the answer.
use Rattle.std.proofs.Common.{◌≡◌, ◌+◌, ◌≤◌, drop, length}
use Rattle.yaml_tree.specs.Index.{chain_count}
use Rattle.yaml_value.specs.PlainEqual.{has_all_pairs, has_pair, items_eq}
use Rattle.yaml_value.specs.View.{entry_pairs, plain, plain_entry, plain_items}
use Rattle.yaml_value.proofs.Indexed.{IsSought}
use Rattle.yaml_value.proofs.value.equal.+same.Given as goal

abbrev pub invariant-same_items-loop-i : goal.invariant-same_items-loop-i
invariant-same_items-loop-i l =
    items_eq (plain_items l.left) (plain_items l.right)
    ≡ items_eq (plain_items (drop l.i l.left)) (plain_items (drop l.i l.right))

abbrev pub invariant-has_all_entries-loop-i : goal.invariant-has_all_entries-loop-i
invariant-has_all_entries-loop-i l =
    has_all_pairs (entry_pairs l.wanted) (entry_pairs l.entries)
    ≡ has_all_pairs (entry_pairs (drop l.i l.wanted)) (entry_pairs l.entries)

abbrev pub invariant-is_among_few-loop-i : goal.invariant-is_among_few-loop-i
invariant-is_among_few-loop-i l =
    has_pair (plain_entry l.wanted) (entry_pairs l.entries)
    ≡ has_pair (plain_entry l.wanted) (entry_pairs (drop l.i l.entries))

-- the key is in what is left of its chain, or nowhere, and what is left gets shorter
abbrev pub invariant-place_in_chain-loop-turn : goal.invariant-place_in_chain-loop-turn
invariant-place_in_chain-loop-turn l =
    IsSought (chain_count (length l.entries)) (plain l.key) (entry_pairs l.entries) l.left
    × (l.left + l.turn ≤ length l.entries)

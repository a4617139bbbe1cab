-- The key is in what is left of its chain, or nowhere. What is left gets shorter.
use Rattle.std.proofs.Common.{◌+◌, ◌≤◌, length}
use Rattle.yaml_tree.specs.Index.{chain_count}
use Rattle.yaml_value.specs.PlainValue.{text}
use Rattle.yaml_value.specs.View.{entry_pairs}
use Rattle.yaml_value.proofs.Indexed.{IsSought}
use Rattle.yaml_value.proofs.value.equal.text_in_chain.Given as goal

abbrev pub invariant-loop-turn : goal.invariant-loop-turn
invariant-loop-turn l =
    IsSought (chain_count (length l.entries)) (text l.text) (entry_pairs l.entries) l.left
    × (l.left + l.turn ≤ length l.entries)

-- Chains are empty so far, and then entries are in theirs so far.
use Rattle.std.proofs.Common.{◌≡◌, length}
use Rattle.yaml_tree.specs.Index.{IsChained}
use Rattle.yaml_tree.specs.View.{entry_pairs}
use Rattle.yaml_tree.proofs.Indexed.{AreEmpty}
use Rattle.yaml_tree.proofs.index.chain_all.Given as goal

abbrev pub invariant-loop-chain : goal.invariant-loop-chain
invariant-loop-chain l =
    AreEmpty l.chain l.entries.items × (entry_pairs l.entries.items ≡ entry_pairs l.initial.entries.items)
    × (length l.entries.items ≡ length l.initial.entries.items)

abbrev pub invariant-loop-place : goal.invariant-loop-place
invariant-loop-place l =
    IsChained l.chains l.place l.entries.items
    × (entry_pairs l.entries.items ≡ entry_pairs l.initial.entries.items)
    × (length l.entries.items ≡ length l.initial.entries.items)

-- Chains are empty so far, and then entries are in theirs so far.
use Rattle.std.proofs.Common.{◌≡◌, length}
use Rattle.yaml_value.specs.Index.{IsChained, lasts_of}
use Rattle.yaml_value.specs.View.{entry_pairs}
use Rattle.yaml_value.proofs.Indexed.{AreEmpty}
use Rattle.yaml_value.proofs.index.chain_all.Given as goal

abbrev pub invariant-loop-number : goal.invariant-loop-number
invariant-loop-number l =
    AreEmpty l.number (lasts_of l.entries.items) × (entry_pairs l.entries.items ≡ entry_pairs l.fn.entries.items)
    × (length l.entries.items ≡ length l.fn.entries.items)

abbrev pub invariant-loop-place : goal.invariant-loop-place
invariant-loop-place l =
    IsChained l.chains l.place l.entries.items
    × (entry_pairs l.entries.items ≡ entry_pairs l.fn.entries.items)
    × (length l.entries.items ≡ length l.fn.entries.items)

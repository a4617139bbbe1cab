-- What is written first, and what is left to write; what is added first, and what is left to add.
use Rattle.std.proofs.Common.{◌≡◌, drop}
use Rattle.std.specs.List.{fold}
use Rattle.std.specs.Hash.FoldHasher.{initial, write}
use Rattle.yaml_value.specs.Hash.{item_writes, sum_with}
use Rattle.yaml_value.specs.View.{entry_pairs, plain_items}
use Rattle.yaml_value.proofs.value.hash.+hash.Given as goal

abbrev pub invariant-hash_items-loop-item : goal.invariant-hash_items-loop-item
invariant-hash_items-loop-item l =
    fold write l.hasher (item_writes (plain_items (drop l.item-index l.item-items)))
    ≡ fold write initial (item_writes (plain_items l.item-items))

abbrev pub invariant-hash_mapping-loop-entry : goal.invariant-hash_mapping-loop-entry
invariant-hash_mapping-loop-entry l =
    sum_with l.sum (entry_pairs (drop l.entry-index l.entry-items)) ≡ sum_with 4 (entry_pairs l.entry-items)

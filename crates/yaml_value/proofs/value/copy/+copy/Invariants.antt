-- The copies so far are those of the values before.
use Rattle.std.proofs.Common.{◌≡◌, take}
use Rattle.yaml_value.specs.View.{plain_items}
use Rattle.yaml_value.proofs.Indexed.{SameEntries}
use Rattle.yaml_value.proofs.value.copy.+copy.Given as goal

abbrev pub invariant-copy_sequence-loop-item : goal.invariant-copy_sequence-loop-item
invariant-copy_sequence-loop-item l = plain_items l.items.items ≡ plain_items (take l.item-index l.item-items)

abbrev pub invariant-copy_mapping-loop-entry : goal.invariant-copy_mapping-loop-entry
invariant-copy_mapping-loop-entry l = SameEntries l.entries.items (take l.entry-index l.entry-items)

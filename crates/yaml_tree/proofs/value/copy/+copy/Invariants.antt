-- The copies so far are those of the values before.
use Rattle.std.proofs.Common.{◌≡◌, take}
use Rattle.yaml_tree.specs.View.{trees_of}
use Rattle.yaml_tree.proofs.Copies.{SameEntries}
use Rattle.yaml_tree.proofs.value.copy.+copy.Given as goal

abbrev pub invariant-copy_items-loop-item : goal.invariant-copy_items-loop-item
invariant-copy_items-loop-item l = trees_of l.items.items ≡ trees_of (take l.item-index l.item-items)

abbrev pub invariant-copy_mapping-loop-entry : goal.invariant-copy_mapping-loop-entry
invariant-copy_mapping-loop-entry l = SameEntries l.entries.items (take l.entry-index l.entry-items)

-- What is left of all is what is left from a place on. What is merged within a value is so within one nesting less.
use Rattle.std.proofs.Common.{◌≡◌, ◌+◌, ◌*◌, length}
use Rattle.yaml_value.specs.Index.{IsSound}
use Rattle.yaml_value.specs.Merge.{each_item, each_value, merged}
use Rattle.yaml_value.specs.View.{entry_pairs, plain_items}
use Rattle.yaml_value.proofs.Merges.{items_from, values_from}
use Rattle.yaml_value.proofs.value.merge.+merge.Given as goal

abbrev pub invariant-merge_items-loop-i : goal.invariant-merge_items-loop-i
invariant-merge_items-loop-i l =
    let old = plain_items l.initial.items.items in
    let now = plain_items l.items.items in
    (length l.items.items ≡ l.count)
    × (each_item (merged l.nestings) old ≡ items_from l.i (merged l.nestings) now)

abbrev pub invariant-merge_entries-loop-i : goal.invariant-merge_entries-loop-i
invariant-merge_entries-loop-i l =
    let old = entry_pairs l.initial.entries.items in
    let now = entry_pairs l.entries.items in
    (length l.entries.items ≡ l.count)
    × (each_value (merged l.nestings) old ≡ values_from l.i (merged l.nestings) now)
    × (IsSound l.initial.entries.items → IsSound l.entries.items)

abbrev pub decreases-merge_value : goal.decreases-merge_value
decreases-merge_value l = 8 * l.nestings

abbrev pub decreases-merge_item : goal.decreases-merge_item
decreases-merge_item l = 8 * l.nestings + 1

abbrev pub decreases-merge_items : goal.decreases-merge_items
decreases-merge_items l = 8 * l.nestings + 2

abbrev pub decreases-merge_sequence : goal.decreases-merge_sequence
decreases-merge_sequence l = 8 * l.nestings + 3

abbrev pub decreases-merge_entry : goal.decreases-merge_entry
decreases-merge_entry l = 8 * l.nestings + 1

abbrev pub decreases-merge_pair : goal.decreases-merge_pair
decreases-merge_pair l = 8 * l.nestings + 2

abbrev pub decreases-merge_entries : goal.decreases-merge_entries
decreases-merge_entries l = 8 * l.nestings + 3

abbrev pub decreases-merge_values : goal.decreases-merge_values
decreases-merge_values l = 8 * l.nestings + 4

abbrev pub decreases-merge_mapping : goal.decreases-merge_mapping
decreases-merge_mapping l = 8 * l.nestings + 5

abbrev pub decreases-merge_tagged : goal.decreases-merge_tagged
decreases-merge_tagged l = 8 * l.nestings + 1

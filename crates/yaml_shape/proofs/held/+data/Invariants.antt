-- What is left is held, and so is all.
use Rattle.std.proofs.Common.{drop}
use Rattle.yaml_shape.specs.DataView.{items_view, entries_view}
use Rattle.yaml_shape.specs.Held.{AreHeld, EntriesAreHeld}
use Rattle.yaml_shape.proofs.held.+data.Given as goal

abbrev pub invariant-items_are_held-loop-item : goal.invariant-items_are_held-loop-item
invariant-items_are_held-loop-item l = AreHeld (items_view (drop l.item-index l.items)) → AreHeld (items_view l.items)

abbrev pub invariant-entries_are_held-loop-entry : goal.invariant-entries_are_held-loop-entry
invariant-entries_are_held-loop-entry l =
    EntriesAreHeld (entries_view (drop l.entry-index l.entries)) → EntriesAreHeld (entries_view l.entries)

-- What the walks over elements, fields and entries keep: the answer is that for those that are left, and where these
-- are held, all are.
use Rattle.std.specs.Prelude.{◌≡◌, drop}
use Rattle.yaml_shape.specs.ShapeView.{ids_of, fields_of}
use Rattle.yaml_shape.specs.DataView.{items_view, entries_view}
use Rattle.yaml_shape.specs.Validity.{numbers_of}
use Rattle.yaml_shape.specs.HasShape.{all_have, each_has, entries_have}
use Rattle.yaml_shape.specs.Held.{AreHeld, EntriesAreHeld}
use Rattle.yaml_shape.proofs.has_shape.+has_shape.Given as goal

-- the elements that are left
abbrev pub invariant-all_have-loop-item : goal.invariant-all_have-loop-item
invariant-all_have-loop-item l =
    (all_have l.schema l.id.0 (items_view l.items) ≡ all_have l.schema l.id.0 (items_view (drop l.item-index l.items)))
    × (AreHeld (items_view (drop l.item-index l.items)) → AreHeld (items_view l.items))

-- the elements and shapes that are left
abbrev pub invariant-each_has-loop-i : goal.invariant-each_has-loop-i
invariant-each_has-loop-i l =
    (each_has l.schema (ids_of l.ids) (items_view l.items)
    ≡ each_has l.schema (ids_of (drop l.i l.ids)) (items_view (drop l.i l.items)))
    × (AreHeld (items_view (drop l.i l.items)) → AreHeld (items_view l.items))

-- the elements and fields that are left
abbrev pub invariant-fields_have-loop-i : goal.invariant-fields_have-loop-i
invariant-fields_have-loop-i l =
    (each_has l.schema (numbers_of (fields_of l.fields)) (items_view l.items)
    ≡ each_has l.schema (numbers_of (fields_of (drop l.i l.fields))) (items_view (drop l.i l.items)))
    × (AreHeld (items_view (drop l.i l.items)) → AreHeld (items_view l.items))

-- the entries that are left
abbrev pub invariant-entries_have-loop-entry : goal.invariant-entries_have-loop-entry
invariant-entries_have-loop-entry l =
    (entries_have l.schema l.key.0 l.value.0 (entries_view l.entries)
    ≡ entries_have l.schema l.key.0 l.value.0 (entries_view (drop l.entry-index l.entries)))
    × (EntriesAreHeld (entries_view (drop l.entry-index l.entries)) → EntriesAreHeld (entries_view l.entries))

-- What the walks over elements, fields and entries keep: the answer is that for those that are left.
use Rattle.std.specs.Prelude.{◌≡◌, drop}
use Rattle.yaml_shape.specs.ShapeView.{ids_of, fields_of}
use Rattle.yaml_shape.specs.DataView.{items_view, entries_view}
use Rattle.yaml_shape.specs.Validity.{numbers_of}
use Rattle.yaml_round.specs.Survives.{all_survive, each_survives, entries_survive}
use Rattle.yaml_round.proofs.fit.+survives.Given as goal

-- the elements that are left
abbrev pub invariant-all_survive-loop-item : goal.invariant-all_survive-loop-item
invariant-all_survive-loop-item l =
    all_survive l.schema l.id.0 l.depth (items_view l.items)
    ≡ all_survive l.schema l.id.0 l.depth (items_view (drop l.item-index l.items))

-- the elements and shapes that are left
abbrev pub invariant-each_survives-loop-i : goal.invariant-each_survives-loop-i
invariant-each_survives-loop-i l =
    each_survives l.schema (ids_of l.ids) l.depth (items_view l.items)
    ≡ each_survives l.schema (ids_of (drop l.i l.ids)) l.depth (items_view (drop l.i l.items))

-- the elements and fields that are left
abbrev pub invariant-fields_survive-loop-i : goal.invariant-fields_survive-loop-i
invariant-fields_survive-loop-i l =
    each_survives l.schema (numbers_of (fields_of l.fields)) l.depth (items_view l.items)
    ≡ each_survives l.schema (numbers_of (fields_of (drop l.i l.fields))) l.depth (items_view (drop l.i l.items))

-- the entries that are left
abbrev pub invariant-entries_survive-loop-entry : goal.invariant-entries_survive-loop-entry
invariant-entries_survive-loop-entry l =
    entries_survive l.schema l.key.0 l.value.0 l.depth (entries_view l.entries)
    ≡ entries_survive l.schema l.key.0 l.value.0 l.depth (entries_view (drop l.entry-index l.entries))

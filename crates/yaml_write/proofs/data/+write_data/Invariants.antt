-- What is left to be written is as before, but for what was added, and what was there is kept.
use Rattle.std.proofs.Common.{◌≡◌, ◌++◌, drop}
use Rattle.yaml_base.specs.EmitTree.{emit_nodes_events, emit_pairs_events}
use Rattle.yaml_shape.specs.DataView.{items_view, entries_view}
use Rattle.yaml_shape.specs.ShapeView.{ids_of, fields_of}
use Rattle.yaml_write.specs.Adds.{KeepsEvents}
use Rattle.yaml_write.specs.Outcomes.{made}
use Rattle.yaml_write.specs.Written.{written_elements, written_items, written_entries, written_fields}
use Rattle.yaml_write.proofs.data.+write_data.Given as goal

abbrev pub invariant-write_elements-loop-item : goal.invariant-write_elements-loop-item
invariant-write_elements-loop-item g l =
    (made (λ part. l.initial.out ++ emit_nodes_events part) (written_elements l.schema l.id.0 (items_view l.items))
    ≡ made (λ part. l.out ++ emit_nodes_events part)
    (written_elements l.schema l.id.0 (items_view (drop l.item-index l.items))))
    × KeepsEvents l.initial.out l.out

abbrev pub invariant-write_items-loop-i : goal.invariant-write_items-loop-i
invariant-write_items-loop-i g l =
    (made (λ part. l.initial.out ++ emit_nodes_events part) (written_items l.schema (ids_of l.ids) (items_view l.items))
    ≡ made (λ part. l.out ++ emit_nodes_events part)
    (written_items l.schema (ids_of (drop l.i l.ids)) (items_view (drop l.i l.items))))
    × KeepsEvents l.initial.out l.out

abbrev pub invariant-write_entries-loop-entry : goal.invariant-write_entries-loop-entry
invariant-write_entries-loop-entry g l =
    (made (λ part. l.initial.out ++ emit_pairs_events part)
    (written_entries l.schema l.key.0 l.value.0 (entries_view l.entries))
    ≡ made (λ part. l.out ++ emit_pairs_events part)
    (written_entries l.schema l.key.0 l.value.0 (entries_view (drop l.entry-index l.entries))))
    × KeepsEvents l.initial.out l.out

abbrev pub invariant-write_fields-loop-i : goal.invariant-write_fields-loop-i
invariant-write_fields-loop-i g l =
    (made (λ part. l.initial.out ++ emit_pairs_events part)
    (written_fields l.schema (fields_of l.fields) (items_view l.items))
    ≡ made (λ part. l.out ++ emit_pairs_events part)
    (written_fields l.schema (fields_of (drop l.i l.fields)) (items_view (drop l.i l.items))))
    × KeepsEvents l.initial.out l.out

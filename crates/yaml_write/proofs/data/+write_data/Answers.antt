-- Data is written part by part.
use Rattle.std.proofs.Common.{◌≡◌, ◌++◌, ◌∷◌, [], ◌+◌, drop, subst, None, Ok, arith, rules, ap, sym, ◌∙◌, refl}
use Rattle.std.proofs.Common.{string_bytes}
use Rattle.std.specs.Prelude.{slice_get}
use Rattle.yaml_base.specs.Answer.{Fails}
use Rattle.yaml_base.specs.EmitEvents.{PlainEmit, tag_bytes, emit_mapping_start, emit_mapping_end}
use Rattle.yaml_base.specs.EmitTree.{emit_node_events, emit_nodes_events, emit_pairs_events, emit_mapping_node}
use Rattle.yaml_base.specs.EmitTree.{emit_node, no_emit_nodes, no_emit_pairs}
use Rattle.yaml_shape.specs.DataView.{data_of, items_view, entries_view}
use Rattle.yaml_shape.specs.ShapeView.{ids_of, fields_of}
use Rattle.yaml_write.specs.Adds.{Adds, KeepsEvents}
use Rattle.yaml_write.specs.Brackets.{start_by, end_by}
use Rattle.yaml_write.specs.InShape.{named_variants}
use Rattle.yaml_write.specs.Outcomes.{made, string_node}
use Rattle.yaml_write.specs.PartsOf.{are_named, collection_written}
use Rattle.yaml_write.specs.Written.{written, written_elements, written_items, written_entries, written_fields}
use Rattle.yaml_write.specs.WrittenEvents.{pair_events}
use Rattle.yaml_write.specs.WrittenParts.{written_entry}
use Rattle.yaml_write.specs.WrittenValue.{pair_node, pair_before}
use Rattle.yaml_write.proofs.AddLaws.{adds-between, adds-joined, left-joined, fails-left, kept-more, kept-then}
use Rattle.yaml_write.proofs.AddLaws.{keeps-through}
use Rattle.yaml_write.proofs.DataLaws.{written-text, data_of-Str, data_of-Variant, elements-left, items-left}
use Rattle.yaml_write.proofs.DataLaws.{entries-left, fields-left, items-done, fields-done}
use Rattle.yaml_write.proofs.PartsLaws.{adds-collection, fails-collection}
use Rattle.yaml_write.proofs.ValueLaws.{pair-row, pairs-row, node-row, none-left}
use Rattle.yaml_write.proofs.data.+write_data.Goals as goal

pub write_data-returns-in-Str : goal.write_data-returns-in-Str
write_data-returns-in-Str g t c =
    rw (
      c.in-Str.is,
      data_of-Str c.in-Str.text,
      written-text c.args.schema.now c.args.id.0
          (tag_bytes c.args.tag) c.in-Str.text,
      ← c.as_str.ensures,
    ) c.string.ensures.added

pub write_untagged-returns-in-Str : goal.write_untagged-returns-in-Str
write_untagged-returns-in-Str g t c =
    rw (
      c.in-Str.is,
      data_of-Str c.in-Str.text,
      written-text c.args.schema.now c.args.id.0 None c.in-Str.text,
      ← c.as_str.ensures,
    ) c.string.ensures.added

pub write_collection-returns : goal.write_collection-returns
write_collection-returns g t c =
    let named : c.are_named-named.result ≡ are_named c.args.shapes = c.are_named-named.ensures in
    adds-collection c.args.schema.now c.args.shapes (tag_bytes c.args.tag)
    (items_view c.args.items.now) c.args.out.now c.start.new.self c.write_parts.new.out c.end.new.self c.end.result
    (subst (λ b. made (λ e. c.args.out.now ++ e ∷ []) (Ok (start_by b (tag_bytes c.args.tag))) ≡ Ok c.start.new.self)
    named c.in_ok-start.ensures) c.in_ok-write_parts.ensures
    (subst (λ b. Adds (λ e. e ∷ []) (Ok (end_by b)) c.write_parts.new.out c.end.new.self c.end.result) named
    c.end.ensures)

pub write_collection-returns-in_err-write_parts : goal.write_collection-returns-in_err-write_parts
write_collection-returns-in_err-write_parts g t c =
    let refused : Fails c.in_err-write_parts.field-0.0
    (collection_written c.args.schema.now c.args.shapes (tag_bytes c.args.tag) (items_view c.args.items.now)) =
    fails-collection c.args.schema.now c.args.shapes (tag_bytes c.args.tag)
    (items_view c.args.items.now) c.in_err-write_parts.field-0.0 c.in_err-write_parts.ensures.0 in
    let kept : KeepsEvents c.args.out.now c.write_parts.new.out =
    kept-more (λ (e : PlainEmit). e ∷ []) (Ok (start_by c.are_named-named.result (tag_bytes c.args.tag)))
    c.args.out.now c.start.new.self c.write_parts.new.out c.in_ok-start.ensures c.in_err-write_parts.ensures.1 in
    search rules

pub write_elements-loop-item-preserved : goal.write_elements-loop-item-preserved
write_elements-loop-item-preserved g t c = (
  c.loop-item.invariant.0
      ∙ (ap (made (λ part. c.loop-item.out ++ emit_nodes_events part))
      (elements-left c.args.schema.now c.args.id.0 c.args.items.now c.loop-item.item-index c.item-item.result
      c.loop-item-test.true c.item-item.is)
      ∙ left-joined emit_node emit_node_events emit_nodes_events emit_nodes_events node-row
      (written c.args.schema.now c.args.id.0 None (data_of c.item-item.result))
      (written_elements c.args.schema.now c.args.id.0 (items_view (drop (c.loop-item.item-index + 1) c.args.items.now)))
      c.loop-item.out c.write_untagged.new.out c.in_ok-write_untagged.ensures),
  kept-then emit_node_events _ c.args.out.now c.loop-item.out c.write_untagged.new.out c.loop-item.invariant.1
      c.in_ok-write_untagged.ensures,
)

pub write_elements-returns-in_err-write_untagged : goal.write_elements-returns-in_err-write_untagged
write_elements-returns-in_err-write_untagged g t c =
    let refused : Fails c.in_err-write_untagged.field-0.0
    (written_elements c.args.schema.now c.args.id.0 (items_view c.args.items.now)) =
    fails-left emit_node (λ part. c.args.out.now ++ emit_nodes_events part)
    (λ part. c.loop-item.out ++ emit_nodes_events part) _
    (written c.args.schema.now c.args.id.0 None (data_of c.item-item.result))
    (written_elements c.args.schema.now c.args.id.0 (items_view (drop (c.loop-item.item-index + 1) c.args.items.now))) _
    (c.loop-item.invariant.0
    ∙ ap (made (λ part. c.loop-item.out ++ emit_nodes_events part))
    (elements-left c.args.schema.now c.args.id.0 c.args.items.now c.loop-item.item-index c.item-item.result
    c.loop-item-test.true c.item-item.is))
    c.in_err-write_untagged.ensures.0 in
    let kept : KeepsEvents c.args.out.now c.write_untagged.new.out =
    keeps-through c.args.out.now c.loop-item.out c.write_untagged.new.out c.loop-item.invariant.1
    c.in_err-write_untagged.ensures.1 in
    search rules

pub write_entries-loop-entry-preserved : goal.write_entries-loop-entry-preserved
write_entries-loop-entry-preserved g t c = (
  c.loop-entry.invariant.0
      ∙ (ap (made (λ part. c.loop-entry.out ++ emit_pairs_events part))
      (entries-left c.args.schema.now c.args.key.0 c.args.value.0 c.args.entries.now c.loop-entry.entry-index
      c.entry-item.result c.loop-entry-test.true c.entry-item.is)
      ∙ left-joined pair_before pair_events emit_pairs_events emit_pairs_events pairs-row
      (written_entry c.args.schema.now c.args.key.0 c.args.value.0 c.entry-item.result)
      (written_entries c.args.schema.now c.args.key.0 c.args.value.0
      (entries_view (drop (c.loop-entry.entry-index + 1) c.args.entries.now))) c.loop-entry.out
      c.write_entry.new.out c.in_ok-write_entry.ensures),
  kept-then pair_events _ c.args.out.now c.loop-entry.out c.write_entry.new.out c.loop-entry.invariant.1
      c.in_ok-write_entry.ensures,
)

pub write_entries-returns-in_err-write_entry : goal.write_entries-returns-in_err-write_entry
write_entries-returns-in_err-write_entry g t c =
    let refused : Fails c.in_err-write_entry.field-0.0
    (written_entries c.args.schema.now c.args.key.0 c.args.value.0 (entries_view c.args.entries.now)) =
    fails-left pair_before (λ part. c.args.out.now ++ emit_pairs_events part)
    (λ part. c.loop-entry.out ++ emit_pairs_events part) _
    (written_entry c.args.schema.now c.args.key.0 c.args.value.0 c.entry-item.result)
    (written_entries c.args.schema.now c.args.key.0 c.args.value.0
    (entries_view (drop (c.loop-entry.entry-index + 1) c.args.entries.now))) _
    (c.loop-entry.invariant.0
    ∙ ap (made (λ part. c.loop-entry.out ++ emit_pairs_events part))
    (entries-left c.args.schema.now c.args.key.0 c.args.value.0 c.args.entries.now c.loop-entry.entry-index
    c.entry-item.result c.loop-entry-test.true c.entry-item.is))
    c.in_err-write_entry.ensures.0 in
    let kept : KeepsEvents c.args.out.now c.write_entry.new.out =
    keeps-through c.args.out.now c.loop-entry.out c.write_entry.new.out c.loop-entry.invariant.1
    c.in_err-write_entry.ensures.1 in
    search rules

pub write_map-returns : goal.write_map-returns
write_map-returns g t c =
    adds-between (emit_mapping_node (tag_bytes c.args.tag)) emit_pairs_events emit_node_events
    (emit_mapping_start (tag_bytes c.args.tag)) emit_mapping_end (λ ps. refl)
    (written_entries c.args.schema.now c.args.key.0 c.args.value.0 (entries_view c.args.entries.now)) c.args.out.now
    c.start_mapping.new.self c.write_entries.new.out c.end_mapping.new.self c.end_mapping.result
    c.in_ok-start_mapping.ensures.added c.in_ok-write_entries.ensures c.end_mapping.ensures.added

pub write_map-returns-in_err-write_entries : goal.write_map-returns-in_err-write_entries
write_map-returns-in_err-write_entries g t c =
    let kept : KeepsEvents c.args.out.now c.write_entries.new.out =
    kept-more (λ (e : PlainEmit). e ∷ []) (Ok (emit_mapping_start (tag_bytes c.args.tag))) c.args.out.now
    c.start_mapping.new.self c.write_entries.new.out c.in_ok-start_mapping.ensures.added c.in_err-write_entries.ensures.1
    in
    search rules

pub write_field-returns : goal.write_field-returns
write_field-returns g t c =
    adds-joined pair_node emit_node_events emit_node_events pair_events pair-row
    (Ok (string_node None (string_bytes c.args.field.now.0)))
    (written c.args.schema.now c.args.field.now.1.0 None (data_of c.args.item.now))
    c.args.out.now c.string.new.self c.write_untagged.new.out c.write_untagged.result
    (ap (λ s. made (λ part. c.args.out.now ++ emit_node_events part) (Ok (string_node None s)))
    (sym c.as_str.ensures.value) ∙ c.in_ok-string.ensures.added) c.write_untagged.ensures

pub write_items-loop-i-preserved : goal.write_items-loop-i-preserved
write_items-loop-i-preserved g t c = (
  c.loop-i.invariant.0
      ∙ (ap (made (λ part. c.loop-i.out ++ emit_nodes_events part))
      (items-left c.args.schema.now c.args.ids.now c.args.items.now c.loop-i.i c.id_at.result c.index-items-i.result
      (omega (arith, c.min-i-end.ensures)) (omega (arith, c.min-i-end.ensures)) c.id_at.ensures c.index-items-i.is)
      ∙ left-joined emit_node emit_node_events emit_nodes_events emit_nodes_events node-row
      (written c.args.schema.now c.id_at.result.0 None (data_of c.index-items-i.result))
      (written_items c.args.schema.now (ids_of (drop (c.loop-i.i + 1) c.args.ids.now))
      (items_view (drop (c.loop-i.i + 1) c.args.items.now))) c.loop-i.out c.write_untagged.new.out
      c.in_ok-write_untagged.ensures),
  kept-then emit_node_events _ c.args.out.now c.loop-i.out c.write_untagged.new.out c.loop-i.invariant.1
      c.in_ok-write_untagged.ensures,
)

pub write_items-returns-in_err-write_untagged : goal.write_items-returns-in_err-write_untagged
write_items-returns-in_err-write_untagged g t c =
    let refused : Fails c.in_err-write_untagged.field-0.0
    (written_items c.args.schema.now (ids_of c.args.ids.now) (items_view c.args.items.now)) =
    fails-left emit_node (λ part. c.args.out.now ++ emit_nodes_events part)
    (λ part. c.loop-i.out ++ emit_nodes_events part) _
    (written c.args.schema.now c.id_at.result.0 None (data_of c.index-items-i.result))
    (written_items c.args.schema.now (ids_of (drop (c.loop-i.i + 1) c.args.ids.now))
    (items_view (drop (c.loop-i.i + 1) c.args.items.now))) _
    (c.loop-i.invariant.0
    ∙ ap (made (λ part. c.loop-i.out ++ emit_nodes_events part))
    (items-left c.args.schema.now c.args.ids.now c.args.items.now c.loop-i.i c.id_at.result c.index-items-i.result
    (omega (arith, c.min-i-end.ensures)) (omega (arith, c.min-i-end.ensures)) c.id_at.ensures c.index-items-i.is))
    c.in_err-write_untagged.ensures.0 in
    let kept : KeepsEvents c.args.out.now c.write_untagged.new.out =
    keeps-through c.args.out.now c.loop-i.out c.write_untagged.new.out c.loop-i.invariant.1
    c.in_err-write_untagged.ensures.1 in
    search rules

pub write_items-returns : goal.write_items-returns
write_items-returns g t c =
    c.loop-i.invariant.0 ∙ (ap (made (λ part. c.loop-i.out ++ emit_nodes_events part))
    (items-done c.args.schema.now c.args.ids.now c.args.items.now c.loop-i.i (omega (arith, c.min-i-end.ensures)))
    ∙ none-left emit_nodes_events no_emit_nodes c.loop-i.out refl)

pub write_fields-loop-i-preserved : goal.write_fields-loop-i-preserved
write_fields-loop-i-preserved g t c = (
  c.loop-i.invariant.0
      ∙ (ap (made (λ part. c.loop-i.out ++ emit_pairs_events part))
      (fields-left c.args.schema.now c.args.fields.now c.args.items.now c.loop-i.i c.index-fields-i.result
      c.index-items-i.result
      (omega (arith, c.min-i-end.ensures)) (omega (arith, c.min-i-end.ensures)) c.index-fields-i.is c.index-items-i.is)
      ∙ left-joined pair_before pair_events emit_pairs_events emit_pairs_events pairs-row
      (made (pair_node (string_node None (string_bytes c.index-fields-i.result.0)))
      (written c.args.schema.now c.index-fields-i.result.1.0 None (data_of c.index-items-i.result)))
      (written_fields c.args.schema.now (fields_of (drop (c.loop-i.i + 1) c.args.fields.now))
      (items_view (drop (c.loop-i.i + 1) c.args.items.now))) c.loop-i.out c.write_field.new.out
      c.in_ok-write_field.ensures),
  kept-then pair_events _ c.args.out.now c.loop-i.out c.write_field.new.out c.loop-i.invariant.1
      c.in_ok-write_field.ensures,
)

pub write_fields-returns-in_err-write_field : goal.write_fields-returns-in_err-write_field
write_fields-returns-in_err-write_field g t c =
    let refused : Fails c.in_err-write_field.field-0.0
    (written_fields c.args.schema.now (fields_of c.args.fields.now) (items_view c.args.items.now)) =
    fails-left pair_before (λ part. c.args.out.now ++ emit_pairs_events part)
    (λ part. c.loop-i.out ++ emit_pairs_events part) _
    (made (pair_node (string_node None (string_bytes c.index-fields-i.result.0)))
    (written c.args.schema.now c.index-fields-i.result.1.0 None (data_of c.index-items-i.result)))
    (written_fields c.args.schema.now (fields_of (drop (c.loop-i.i + 1) c.args.fields.now))
    (items_view (drop (c.loop-i.i + 1) c.args.items.now))) _
    (c.loop-i.invariant.0
    ∙ ap (made (λ part. c.loop-i.out ++ emit_pairs_events part))
    (fields-left c.args.schema.now c.args.fields.now c.args.items.now c.loop-i.i c.index-fields-i.result
    c.index-items-i.result
    (omega (arith, c.min-i-end.ensures)) (omega (arith, c.min-i-end.ensures)) c.index-fields-i.is c.index-items-i.is))
    c.in_err-write_field.ensures.0 in
    let kept : KeepsEvents c.args.out.now c.write_field.new.out =
    keeps-through c.args.out.now c.loop-i.out c.write_field.new.out c.loop-i.invariant.1
    c.in_err-write_field.ensures.1 in
    search rules

pub write_fields-returns : goal.write_fields-returns
write_fields-returns g t c =
    c.loop-i.invariant.0 ∙ (ap (made (λ part. c.loop-i.out ++ emit_pairs_events part))
    (fields-done c.args.schema.now c.args.fields.now c.args.items.now c.loop-i.i
    (omega (arith, c.min-i-end.ensures)))
    ∙ none-left emit_pairs_events no_emit_pairs c.loop-i.out refl)

pub write_data-returns-in-Variant : goal.write_data-returns-in-Variant
write_data-returns-in-Variant g t c =
    let found = c.variant_at.ensures ∙ ap (λ shape. slice_get (named_variants shape) c.in-Variant.place)
    c.shape-shape.ensures.found in
    rw (c.in-Variant.is, data_of-Variant c.in-Variant.place c.in-Variant.inner, ← found, ← c.deref-in-Variant.ensures)
    c.write_variant.ensures

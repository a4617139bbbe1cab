-- What the parts of a sequence, a tuple or a struct are written as.
use Rattle.std.specs.Prelude.{ℕ, List, Bool, true, false, Option, Result}
use Rattle.yaml_base.specs.EmitEvents.{PlainEmit}
use Rattle.yaml_base.specs.EmitTree.{emit_nodes_events, emit_pairs_events, emit_sequence_node, emit_mapping_node}
use Rattle.yaml_base.specs.declared.error.Cause.{Cause}
use Rattle.yaml_shape.specs.PlainData.{PlainItems}
use Rattle.yaml_shape.specs.PlainShape.{PlainShape}
use Rattle.yaml_shape.specs.ShapeView.{ids_of, fields_of}
use Rattle.yaml_write.specs.Outcomes.{Outcome, made}
use Rattle.yaml_write.specs.Written.{written_elements, written_items, written_fields}
use Rattle.yaml_write.specs.declared.part_shapes.PartShapes.{PartShapes}
use Rattle.yaml_write.specs.declared.part_shapes.PartShapes.TheVariants.{Elements, Items, Fields}

-- the parts have names
abbrev pub are_named : PartShapes → Bool
are_named (Elements id) = false
are_named (Items ids) = false
are_named (Fields fields) = true

-- the events of the parts
abbrev pub parts_written : List PlainShape → PartShapes → PlainItems → Result (List PlainEmit) Cause
parts_written t (Elements id) items = made emit_nodes_events (written_elements t id.0 items)
parts_written t (Items ids) items = made emit_nodes_events (written_items t (ids_of ids.now) items)
parts_written t (Fields fields) items = made emit_pairs_events (written_fields t (fields_of fields.now) items)

-- the collection under a tag, if there is one
abbrev pub collection_written : List PlainShape → PartShapes → (tag : Option (List ℕ)) → PlainItems → Outcome
collection_written t (Elements id) tag items = made (emit_sequence_node tag) (written_elements t id.0 items)
collection_written t (Items ids) tag items = made (emit_sequence_node tag) (written_items t (ids_of ids.now) items)
collection_written t (Fields fields) tag items =
    made (emit_mapping_node tag) (written_fields t (fields_of fields.now) items)

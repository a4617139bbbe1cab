-- Collections of data: their parts between a start and an end.
use Rattle.std.proofs.Common.{◌≡◌, ℕ, ◌++◌, ◌∷◌, [], List, Option, Result, Ok, Err, refl, sym, ◌∙◌}
use Rattle.yaml_base.specs.Answer.{Fails}
use Rattle.yaml_base.specs.EmitEvents.{PlainEmit, emit_sequence_start, emit_sequence_end, emit_mapping_start}
use Rattle.yaml_base.specs.EmitEvents.{emit_mapping_end}
use Rattle.yaml_base.specs.EmitTree.{EmitNode, emit_node_events, emit_nodes_events, emit_pairs_events}
use Rattle.yaml_base.specs.EmitTree.{emit_sequence_node, emit_mapping_node}
use Rattle.yaml_base.specs.declared.error.Cause.{Cause}
use Rattle.yaml_shape.specs.PlainData.{PlainItems}
use Rattle.yaml_shape.specs.PlainShape.{PlainShape}
use Rattle.yaml_shape.specs.ShapeView.{ids_of, fields_of}
use Rattle.yaml_write.specs.Adds.{Adds}
use Rattle.yaml_write.specs.Brackets.{start_by, end_by}
use Rattle.yaml_write.specs.Outcomes.{made}
use Rattle.yaml_write.specs.PartsOf.{are_named, parts_written, collection_written}
use Rattle.yaml_write.specs.Written.{written_elements, written_items, written_fields}
use Rattle.yaml_write.specs.declared.part_shapes.PartShapes.{PartShapes}
use Rattle.yaml_write.specs.declared.part_shapes.PartShapes.TheVariants.{Elements, Items, Fields}
use Rattle.yaml_write.proofs.AddLaws.{adds-between, fails-made, fails-part}

made-made : {A B C : Type 0} (f : B → C) (g : A → B) (given : Result A Cause) → made f (made g given)
    ≡ made (λ a. f (g a)) given
made-made f g (Ok a) = refl
made-made f g (Err cause) = refl

-- a start, the events of parts, and an end
between : {A X : Type 0} (f : A → EmitNode) (va : A → List PlainEmit) (start end : PlainEmit)
    (row : (a : A) → emit_node_events (f a) ≡ start ∷ (va a ++ end ∷ [])) (parts : Result A Cause)
    (old begun mid new : List PlainEmit) (r : Result X Cause)
    → made (λ e. old ++ e ∷ []) (Ok start) ≡ Ok begun → made (λ part. begun ++ part) (made va parts) ≡ Ok mid
    → Adds (λ e. e ∷ []) (Ok end) mid new r → Adds emit_node_events (made f parts) old new r
between f va start end row parts old begun mid new r s e h =
    adds-between f va emit_node_events start end row parts old begun mid new r s
    (sym (made-made (λ part. begun ++ part) va parts) ∙ e) h

-- a collection is added
pub adds-collection : {X : Type 0} (t : List PlainShape) (shapes : PartShapes) (tag : Option (List ℕ)) (ds : PlainItems)
    (old begun mid new : List PlainEmit) (r : Result X Cause)
    → made (λ e. old ++ e ∷ []) (Ok (start_by (are_named shapes) tag)) ≡ Ok begun
    → made (λ part. begun ++ part) (parts_written t shapes ds) ≡ Ok mid
    → Adds (λ e. e ∷ []) (Ok (end_by (are_named shapes))) mid new r
    → Adds emit_node_events (collection_written t shapes tag ds) old new r
adds-collection t (Elements id) tag ds old begun mid new r s e h =
    between (emit_sequence_node tag) emit_nodes_events (emit_sequence_start tag) emit_sequence_end (λ ns. refl)
    (written_elements t id.0 ds) old begun mid new r s e h
adds-collection t (Items ids) tag ds old begun mid new r s e h =
    between (emit_sequence_node tag) emit_nodes_events (emit_sequence_start tag) emit_sequence_end (λ ns. refl)
    (written_items t (ids_of ids.now) ds) old begun mid new r s e h
adds-collection t (Fields fields) tag ds old begun mid new r s e h =
    between (emit_mapping_node tag) emit_pairs_events (emit_mapping_start tag) emit_mapping_end (λ ps. refl)
    (written_fields t (fields_of fields.now) ds) old begun mid new r s e h

within : {A : Type 0} (f : A → EmitNode) (va : A → List PlainEmit) (parts : Result A Cause) (cause : Cause)
    → Fails cause (made va parts) → Fails cause (made f parts)
within f va parts cause h = fails-made f parts cause (fails-part va parts cause h)

-- what its parts are refused for, it is refused for
pub fails-collection : (t : List PlainShape) (shapes : PartShapes) (tag : Option (List ℕ)) (ds : PlainItems)
    (cause : Cause)
    → Fails cause (parts_written t shapes ds) → Fails cause (collection_written t shapes tag ds)
fails-collection t (Elements id) tag ds cause h =
    within (emit_sequence_node tag) emit_nodes_events (written_elements t id.0 ds) cause h
fails-collection t (Items ids) tag ds cause h =
    within (emit_sequence_node tag) emit_nodes_events (written_items t (ids_of ids.now) ds) cause h
fails-collection t (Fields fields) tag ds cause h =
    within (emit_mapping_node tag) emit_pairs_events (written_fields t (fields_of fields.now) ds) cause h

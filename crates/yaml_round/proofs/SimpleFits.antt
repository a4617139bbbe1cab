-- Simple data is written, and nothing in it is lost.
use Rattle.std.proofs.Common.{◌≡◌, ◌≤◌, ℕ, List, [], ◌∷◌, Option, None, Result, Ok, true}
use Rattle.std.proofs.Common.{refl, ap, ◌∙◌}
use Rattle.std.specs.Prelude.{◌&&◌}
use Rattle.yaml_base.specs.EmitTree.{EmitNode, EmitNodes, EmitPairs, emit_sequence_node}
use Rattle.yaml_base.specs.EmitTree.{emit_mapping_node, emit_node}
use Rattle.yaml_base.specs.declared.error.Cause.{Cause}
use Rattle.yaml_shape.specs.HasShape.{HasShape}
use Rattle.yaml_shape.specs.PlainData.{PlainData, any_data, bool_data, char_data, signed_data, unsigned_data}
use Rattle.yaml_shape.specs.PlainData.{text_data, bytes_data, none_data, some_data, unit_data, newtype_data, seq_data}
use Rattle.yaml_shape.specs.PlainData.{tuple_data, map_data, struct_data, variant_data, ignored_data}
use Rattle.yaml_shape.specs.PlainData.{PlainItems, no_items, item, PlainEntries, no_entries, entry}
use Rattle.yaml_shape.specs.PlainShape.{PlainShape, shape_at}
use Rattle.yaml_shape.specs.Validity.{numbers_of}
use Rattle.yaml_write.specs.InShape.{inner_shape, element_shape, item_shapes, key_shape, value_shape, named_fields}
use Rattle.yaml_write.specs.Outcomes.{made, joined, string_node}
use Rattle.yaml_write.specs.Written.{written, written_elements, written_items, written_entries, written_fields}
use Rattle.yaml_write.specs.WrittenValue.{pair_node, pair_before}
use Rattle.yaml_round.specs.Fits.{Fits, data_fits, all_fit, each_fits, entries_fit}
use Rattle.yaml_printed.specs.Nestings.{nestings}
use Rattle.yaml_round.specs.SimpleData.{is_simple, are_simple, entries_are_simple}
use Rattle.yaml_round.proofs.SameOrders.{both, first, second}

-- two parts that are written are written together
pub joined_ok : {A B C : Type 0} (f : A → B → C) {a : Result A Cause} {b : Result B Cause} {x : A} {y : B} → a ≡ Ok x
    → b ≡ Ok y → joined f a b ≡ Ok (f x y)
joined_ok f {a} {b} {x} {y} h k = ap (λ a. joined f a b) h ∙ ap (made (f x)) k

module _ (t : List PlainShape) where
  mutual
    -- nothing in it is lost
    simple_kept : (id : ℕ) (d : PlainData) → is_simple d ≡ true → data_fits t id d ≡ true
    simple_kept id (bool_data b) h = refl
    simple_kept id (char_data c) h = refl
    simple_kept id (signed_data z) h = refl
    simple_kept id (unsigned_data n) h = refl
    simple_kept id (text_data lent text) h = refl
    simple_kept id none_data h = refl
    simple_kept id unit_data h = refl
    simple_kept id ignored_data h = refl
    simple_kept id (newtype_data d) h = simple_kept (inner_shape (shape_at t id)) d h
    simple_kept id (seq_data ds) h = all_kept (element_shape (shape_at t id)) ds h
    simple_kept id (tuple_data ds) h = each_kept (item_shapes (shape_at t id)) ds h
    simple_kept id (map_data es) h = pairs_kept (key_shape (shape_at t id)) (value_shape (shape_at t id)) es h
    simple_kept id (struct_data ds) h = each_kept (numbers_of (named_fields (shape_at t id))) ds h
    simple_kept id (any_data v) h = absurd cc
    simple_kept id (bytes_data bytes) h = absurd cc
    simple_kept id (some_data d) h = absurd cc
    simple_kept id (variant_data place d) h = absurd cc

    all_kept : (id : ℕ) (ds : PlainItems) → are_simple ds ≡ true → all_fit t id ds ≡ true
    all_kept id no_items h = refl
    all_kept id (item d ds) h =
        both (data_fits t id d) (all_fit t id ds) (simple_kept id d (first (is_simple d) (are_simple ds) h))
        (all_kept id ds (second (is_simple d) (are_simple ds) h))

    each_kept : (ids : List ℕ) (ds : PlainItems) → are_simple ds ≡ true → each_fits t ids ds ≡ true
    each_kept [] no_items h = refl
    each_kept [] (item d ds) h = refl
    each_kept (id ∷ ids) no_items h = refl
    each_kept (id ∷ ids) (item d ds) h =
        both (data_fits t id d) (each_fits t ids ds) (simple_kept id d (first (is_simple d) (are_simple ds) h))
        (each_kept ids ds (second (is_simple d) (are_simple ds) h))

    pairs_kept : (key value : ℕ) (es : PlainEntries) → entries_are_simple es ≡ true → entries_fit t key value es ≡ true
    pairs_kept key value no_entries h = refl
    pairs_kept key value (entry k v es) h =
        let h' = second (is_simple k) (is_simple v && entries_are_simple es) h in
        both (data_fits t key k) (data_fits t value v && entries_fit t key value es)
        (simple_kept key k (first (is_simple k) (is_simple v && entries_are_simple es) h))
        (both (data_fits t value v) (entries_fit t key value es)
        (simple_kept value v (first (is_simple v) (entries_are_simple es) h'))
        (pairs_kept key value es (second (is_simple v) (entries_are_simple es) h')))

  mutual
    -- it is written
    simple_written : (id : ℕ) (tag : Option (List ℕ)) (d : PlainData) → is_simple d ≡ true
        → (e : EmitNode) × (written t id tag d ≡ Ok e)
    simple_written id tag (bool_data b) h = (_, refl)
    simple_written id tag (char_data c) h = (_, refl)
    simple_written id tag (signed_data z) h = (_, refl)
    simple_written id tag (unsigned_data n) h = (_, refl)
    simple_written id tag (text_data lent text) h = (_, refl)
    simple_written id tag none_data h = (_, refl)
    simple_written id tag unit_data h = (_, refl)
    simple_written id tag ignored_data h = (_, refl)
    simple_written id tag (newtype_data d) h = simple_written (inner_shape (shape_at t id)) tag d h
    simple_written id tag (seq_data ds) h =
        let w = all_written (element_shape (shape_at t id)) ds h in
        (emit_sequence_node tag w.0, ap (made (emit_sequence_node tag)) w.1)
    simple_written id tag (tuple_data ds) h =
        let w = each_written (item_shapes (shape_at t id)) ds h in
        (emit_sequence_node tag w.0, ap (made (emit_sequence_node tag)) w.1)
    simple_written id tag (map_data es) h =
        let w = pairs_written (key_shape (shape_at t id)) (value_shape (shape_at t id)) es h in
        (emit_mapping_node tag w.0, ap (made (emit_mapping_node tag)) w.1)
    simple_written id tag (struct_data ds) h =
        let w = fields_written (named_fields (shape_at t id)) ds h in
        (emit_mapping_node tag w.0, ap (made (emit_mapping_node tag)) w.1)
    simple_written id tag (any_data v) h = absurd cc
    simple_written id tag (bytes_data bytes) h = absurd cc
    simple_written id tag (some_data d) h = absurd cc
    simple_written id tag (variant_data place d) h = absurd cc

    all_written : (id : ℕ) (ds : PlainItems) → are_simple ds ≡ true
        → (es : EmitNodes) × (written_elements t id ds ≡ Ok es)
    all_written id no_items h = (_, refl)
    all_written id (item d ds) h =
        let w = simple_written id None d (first (is_simple d) (are_simple ds) h) in
        let v = all_written id ds (second (is_simple d) (are_simple ds) h) in
        (emit_node w.0 v.0, joined_ok emit_node w.1 v.1)

    each_written : (ids : List ℕ) (ds : PlainItems) → are_simple ds ≡ true
        → (es : EmitNodes) × (written_items t ids ds ≡ Ok es)
    each_written [] ds h = (_, refl)
    each_written (id ∷ ids) no_items h = (_, refl)
    each_written (id ∷ ids) (item d ds) h =
        let w = simple_written id None d (first (is_simple d) (are_simple ds) h) in
        let v = each_written ids ds (second (is_simple d) (are_simple ds) h) in
        (emit_node w.0 v.0, joined_ok emit_node w.1 v.1)

    pairs_written : (key value : ℕ) (es : PlainEntries) → entries_are_simple es ≡ true
        → (ps : EmitPairs) × (written_entries t key value es ≡ Ok ps)
    pairs_written key value no_entries h = (_, refl)
    pairs_written key value (entry k v es) h =
        let h' = second (is_simple k) (is_simple v && entries_are_simple es) h in
        let a = simple_written key None k (first (is_simple k) (is_simple v && entries_are_simple es) h) in
        let b = simple_written value None v (first (is_simple v) (entries_are_simple es) h') in
        let c = pairs_written key value es (second (is_simple v) (entries_are_simple es) h') in
        (pair_before (pair_node a.0 b.0) c.0, joined_ok pair_before (joined_ok pair_node a.1 b.1) c.1)

    fields_written : (fields : List (List ℕ × ℕ)) (ds : PlainItems) → are_simple ds ≡ true
        → (ps : EmitPairs) × (written_fields t fields ds ≡ Ok ps)
    fields_written [] ds h = (_, refl)
    fields_written (field ∷ fields) no_items h = (_, refl)
    fields_written (field ∷ fields) (item d ds) h =
        let a = simple_written field.1 None d (first (is_simple d) (are_simple ds) h) in
        let c = fields_written fields ds (second (is_simple d) (are_simple ds) h) in (
          pair_before (pair_node (string_node None field.0) a.0) c.0,
          joined_ok pair_before (ap (made (pair_node (string_node None field.0))) a.1) c.1,
        )

  -- simple data of a shape fits
  pub simple_fits : (nesting id : ℕ) (d : PlainData) → HasShape t id d → is_simple d ≡ true → nestings d ≤ nesting
      → Fits nesting t id d
  simple_fits nesting id d has simple nests = record {
    typed = has;
    written = simple_written id None d simple;
    nests_within = nests;
    returns = simple_kept id d simple;
  }

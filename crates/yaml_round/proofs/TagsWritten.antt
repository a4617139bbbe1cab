-- What data is written as under a tag from above has that tag.
use Rattle.std.specs.Prelude.{slice_get}
use Rattle.std.proofs.Common.{◌≡◌, ℕ, List, Option, Some, None, Ok, sym, ap}
use Rattle.yaml_base.specs.EmitTree.{EmitNode, emit_sequence_node, emit_mapping_node}
use Rattle.yaml_shape.specs.PlainData.{PlainData, any_data, bool_data, char_data, signed_data, unsigned_data, text_data}
use Rattle.yaml_shape.specs.PlainData.{bytes_data, none_data, some_data, unit_data, newtype_data, seq_data, tuple_data}
use Rattle.yaml_shape.specs.PlainData.{map_data, struct_data, variant_data, ignored_data}
use Rattle.yaml_shape.specs.PlainShape.{PlainShape, PlainVariant, unit_variant, newtype_variant, tuple_variant}
use Rattle.yaml_shape.specs.PlainShape.{struct_variant, shape_at}
use Rattle.yaml_write.specs.InShape.{inner_shape, element_shape, item_shapes, key_shape, value_shape, named_fields}
use Rattle.yaml_write.specs.InShape.{named_variants}
use Rattle.yaml_write.specs.Outcomes.{Outcome}
use Rattle.yaml_write.specs.Written.{written, written_tuple, written_struct, written_elements, written_items}
use Rattle.yaml_write.specs.Written.{written_entries, written_fields, variant_by}
use Rattle.yaml_round.proofs.Outcomes.{same_answer, made_ok, tag_of}
use Rattle.yaml_round.proofs.ValuesReturn.{value_has_tag}

-- a variant
variant_has_tag : (o : Option (List ℕ × PlainVariant)) (own : List ℕ)
    (write : PlainVariant → Option (List ℕ) → Outcome) (e : EmitNode) → variant_by o (Some own) write ≡ Ok e
    → tag_of e ≡ Some own
variant_has_tag None own write e h = sym (ap tag_of (same_answer _ e h))
variant_has_tag (Some (name, unit_variant)) own write e h = sym (ap tag_of (same_answer _ e h))
variant_has_tag (Some (name, newtype_variant inner)) own write e h = absurd cc
variant_has_tag (Some (name, tuple_variant ids)) own write e h = absurd cc
variant_has_tag (Some (name, struct_variant strict fields)) own write e h = absurd cc

module _ (t : List PlainShape) where
  -- data of any shape
  pub data_has_tag : (d : PlainData) (id : ℕ) (own : List ℕ) (e : EmitNode) → written t id (Some own) d ≡ Ok e
      → tag_of e ≡ Some own
  data_has_tag (any_data v) id own e h = value_has_tag own v e h
  data_has_tag (bool_data b) id own e h = sym (ap tag_of (same_answer _ e h))
  data_has_tag (char_data c) id own e h = sym (ap tag_of (same_answer _ e h))
  data_has_tag (signed_data z) id own e h = sym (ap tag_of (same_answer _ e h))
  data_has_tag (unsigned_data n) id own e h = sym (ap tag_of (same_answer _ e h))
  data_has_tag (text_data lent text) id own e h = sym (ap tag_of (same_answer _ e h))
  data_has_tag (bytes_data bytes) id own e h = absurd cc
  data_has_tag none_data id own e h = sym (ap tag_of (same_answer _ e h))
  data_has_tag (some_data d) id own e h = data_has_tag d (inner_shape (shape_at t id)) own e h
  data_has_tag unit_data id own e h = sym (ap tag_of (same_answer _ e h))
  data_has_tag (newtype_data d) id own e h = data_has_tag d (inner_shape (shape_at t id)) own e h
  data_has_tag (seq_data ds) id own e h =
      ap tag_of (made_ok (emit_sequence_node (Some own)) (written_elements t (element_shape (shape_at t id)) ds) e h).2
  data_has_tag (tuple_data ds) id own e h =
      ap tag_of (made_ok (emit_sequence_node (Some own)) (written_items t (item_shapes (shape_at t id)) ds) e h).2
  data_has_tag (map_data es) id own e h =
      ap tag_of (made_ok (emit_mapping_node (Some own))
      (written_entries t (key_shape (shape_at t id)) (value_shape (shape_at t id)) es) e h).2
  data_has_tag (struct_data ds) id own e h =
      ap tag_of (made_ok (emit_mapping_node (Some own)) (written_fields t (named_fields (shape_at t id)) ds) e h).2
  data_has_tag (variant_data place d) id own e h =
      variant_has_tag (slice_get (named_variants (shape_at t id)) place) own _ e h
  data_has_tag ignored_data id own e h = sym (ap tag_of (same_answer _ e h))

  -- the content of a variant without and with names
  pub tuple_has_tag : (d : PlainData) (ids : List ℕ) (own : List ℕ) (e : EmitNode)
      → written_tuple t ids (Some own) d ≡ Ok e → tag_of e ≡ Some own
  tuple_has_tag (tuple_data ds) ids own e h =
      ap tag_of (made_ok (emit_sequence_node (Some own)) (written_items t ids ds) e h).2
  tuple_has_tag _ ids own e h = sym (ap tag_of (same_answer _ e h))

  pub struct_has_tag : (d : PlainData) (fields : List (List ℕ × ℕ)) (own : List ℕ) (e : EmitNode)
      → written_struct t fields (Some own) d ≡ Ok e → tag_of e ≡ Some own
  struct_has_tag (struct_data ds) fields own e h =
      ap tag_of (made_ok (emit_mapping_node (Some own)) (written_fields t fields ds) e h).2
  struct_has_tag _ fields own e h = sym (ap tag_of (same_answer _ e h))

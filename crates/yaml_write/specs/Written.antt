-- What data of a shape is written as.
use Rattle.std.specs.Prelude.{ℕ, List, [], ◌∷◌, Bool, true, false, if◌then◌else◌, Option, None, Some}
use Rattle.std.specs.Prelude.{Result, Ok, Err, decimal, slice_get}
use Rattle.std.specs.Char.{encode_utf8}
use Rattle.std.specs.Fmt.{signed_decimal}
use Rattle.yaml_base.specs.EmitTree.{EmitNodes, EmitPairs, emit_scalar_node, emit_sequence_node}
use Rattle.yaml_base.specs.EmitTree.{emit_mapping_node, no_emit_nodes, emit_node, no_emit_pairs}
use Rattle.yaml_base.specs.declared.emitter.AskedStyle.TheVariants.{SingleQuoted}
use Rattle.yaml_base.specs.declared.error.Cause.{Cause}
use Rattle.yaml_base.specs.declared.error.Cause.TheVariants.{BytesUnsupported}
use Rattle.yaml_shape.specs.PlainShape.{PlainShape, PlainVariant, unit_variant, newtype_variant, tuple_variant}
use Rattle.yaml_shape.specs.PlainShape.{struct_variant, shape_at}
use Rattle.yaml_shape.specs.PlainData.{PlainData, PlainItems, PlainEntries, any_data, bool_data, char_data, signed_data}
use Rattle.yaml_shape.specs.PlainData.{unsigned_data, text_data, bytes_data, none_data, some_data, unit_data}
use Rattle.yaml_shape.specs.PlainData.{newtype_data, seq_data, tuple_data, map_data, struct_data, variant_data}
use Rattle.yaml_shape.specs.PlainData.{ignored_data, no_items, item, no_entries, entry}
use Rattle.yaml_write.specs.InShape.{inner_shape, element_shape, item_shapes, key_shape, value_shape, named_fields}
use Rattle.yaml_write.specs.InShape.{named_variants}
use Rattle.yaml_write.specs.LocalTags.{local_tag}
use Rattle.yaml_write.specs.Outcomes.{Outcome, made, joined, plain_node, null_node, string_node, under}
use Rattle.yaml_write.specs.WrittenValue.{written_value, truth_text, pair_node, pair_before}

-- the variant has content
abbrev pub holds_content : PlainVariant → Bool
holds_content unit_variant = false
holds_content (newtype_variant inner) = true
holds_content (tuple_variant ids) = true
holds_content (struct_variant strict fields) = true

-- the variant with its name: as a string without content, else what writes its content, under its name as a tag
abbrev pub variant_by : Option (List ℕ × PlainVariant) → (tag : Option (List ℕ))
    → (PlainVariant → Option (List ℕ) → Outcome) → Outcome
variant_by None tag write = Ok (null_node tag)
variant_by (Some v) tag write =
    if holds_content v.1 then under tag (local_tag v.0) (write v.1) else Ok (string_node tag v.0)

-- what writes the content of a variant, by what the content is
abbrev pub content_by : (own : Option (List ℕ)) → (ℕ → Outcome) → (List ℕ → Outcome) → (List (List ℕ × ℕ) → Outcome)
    → PlainVariant → Outcome
content_by own newtype tuple named unit_variant = Ok (null_node own)
content_by own newtype tuple named (newtype_variant inner) = newtype inner
content_by own newtype tuple named (tuple_variant ids) = tuple ids
content_by own newtype tuple named (struct_variant strict fields) = named fields

-- What data of a shape is written as, under a tag from above, if there is one. Optionals and structs around one content
-- hand the tag on; the parts of a collection have none from above. Data that hasn't the shape, of which no call speaks,
-- is null where it would have to be a variant or its content.
abbrev mutual
  pub written : List PlainShape → (id : ℕ) → (tag : Option (List ℕ)) → PlainData → Outcome
  written t id tag (any_data v) = written_value tag v
  written t id tag (bool_data b) = Ok (plain_node tag (truth_text b))
  written t id tag (char_data c) = Ok (emit_scalar_node tag (encode_utf8 c) SingleQuoted)
  written t id tag (signed_data z) = Ok (plain_node tag (signed_decimal z))
  written t id tag (unsigned_data n) = Ok (plain_node tag (decimal n))
  written t id tag (text_data lent text) = Ok (string_node tag text)
  written t id tag (bytes_data bytes) = Err BytesUnsupported
  written t id tag none_data = Ok (null_node tag)
  written t id tag (some_data content) = written t (inner_shape (shape_at t id)) tag content
  written t id tag unit_data = Ok (null_node tag)
  written t id tag (newtype_data content) = written t (inner_shape (shape_at t id)) tag content
  written t id tag (seq_data items) =
      made (emit_sequence_node tag) (written_elements t (element_shape (shape_at t id)) items)
  written t id tag (tuple_data items) =
      made (emit_sequence_node tag) (written_items t (item_shapes (shape_at t id)) items)
  written t id tag (map_data entries) =
      made (emit_mapping_node tag)
      (written_entries t (key_shape (shape_at t id)) (value_shape (shape_at t id)) entries)
  written t id tag (struct_data items) =
      made (emit_mapping_node tag) (written_fields t (named_fields (shape_at t id)) items)
  written t id tag (variant_data place content) =
      variant_by (slice_get (named_variants (shape_at t id)) place) tag
      (λ variant own. content_by own (λ inner. written t inner own content) (λ ids. written_tuple t ids own content)
      (λ fields. written_struct t fields own content) variant)
  written t id tag ignored_data = Ok (null_node tag)

  -- the content of a variant whose fields have no names
  pub written_tuple : List PlainShape → (ids : List ℕ) → (tag : Option (List ℕ)) → PlainData → Outcome
  written_tuple t ids tag (tuple_data items) = made (emit_sequence_node tag) (written_items t ids items)
  written_tuple t ids tag _ = Ok (null_node tag)

  -- the content of a variant whose fields have names
  pub written_struct : List PlainShape → (fields : List (List ℕ × ℕ)) → (tag : Option (List ℕ)) → PlainData → Outcome
  written_struct t fields tag (struct_data items) = made (emit_mapping_node tag) (written_fields t fields items)
  written_struct t fields tag _ = Ok (null_node tag)

  -- elements, all of one shape
  pub written_elements : List PlainShape → (id : ℕ) → PlainItems → Result EmitNodes Cause
  written_elements t id no_items = Ok no_emit_nodes
  written_elements t id (item d items) = joined emit_node (written t id None d) (written_elements t id items)

  -- items, each of its own shape
  pub written_items : List PlainShape → (ids : List ℕ) → PlainItems → Result EmitNodes Cause
  written_items t [] items = Ok no_emit_nodes
  written_items t (id ∷ ids) no_items = Ok no_emit_nodes
  written_items t (id ∷ ids) (item d items) = joined emit_node (written t id None d) (written_items t ids items)

  -- keys of one shape, each with its value of another
  pub written_entries : List PlainShape → (key : ℕ) → (value : ℕ) → PlainEntries → Result EmitPairs Cause
  written_entries t key value no_entries = Ok no_emit_pairs
  written_entries t key value (entry k v entries) =
      joined pair_before (joined pair_node (written t key None k) (written t value None v))
      (written_entries t key value entries)

  -- the names of fields, each as a string before its value
  pub written_fields : List PlainShape → (fields : List (List ℕ × ℕ)) → PlainItems → Result EmitPairs Cause
  written_fields t [] items = Ok no_emit_pairs
  written_fields t (field ∷ fields) no_items = Ok no_emit_pairs
  written_fields t (field ∷ fields) (item d items) =
      joined pair_before (made (pair_node (string_node None field.0)) (written t field.1 None d))
      (written_fields t fields items)

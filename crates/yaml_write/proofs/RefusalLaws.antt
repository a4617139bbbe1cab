-- Data is refused only for bytes and for a tag directly upon a tag.
use Rattle.std.specs.Prelude.{IfErr, slice_get}
use Rattle.std.proofs.Common.{ℕ, List, [], ◌∷◌, Option, Some, None, Result, Ok, Err}
use Rattle.yaml_base.specs.EmitTree.{emit_sequence_node, emit_mapping_node, emit_node}
use Rattle.yaml_base.specs.declared.error.Cause.{Cause}
use Rattle.yaml_shape.specs.PlainData.{PlainData, PlainItems, PlainEntries, any_data, bool_data, char_data, signed_data}
use Rattle.yaml_shape.specs.PlainData.{unsigned_data, text_data, bytes_data, none_data, some_data, unit_data}
use Rattle.yaml_shape.specs.PlainData.{newtype_data, seq_data, tuple_data, map_data, struct_data, variant_data}
use Rattle.yaml_shape.specs.PlainData.{ignored_data, no_items, item, no_entries, entry}
use Rattle.yaml_shape.specs.PlainShape.{PlainShape, PlainVariant, unit_variant, newtype_variant, tuple_variant}
use Rattle.yaml_shape.specs.PlainShape.{struct_variant, shape_at}
use Rattle.yaml_tree.specs.Tree.{Tree, null, boolean, number, string, sequence, mapping, tagged}
use Rattle.yaml_tree.specs.Tree.{Trees, no_trees, tree, Pairs, no_pairs, pair}
use Rattle.yaml_write.specs.InShape.{inner_shape, element_shape, item_shapes, key_shape, value_shape, named_fields}
use Rattle.yaml_write.specs.InShape.{named_variants}
use Rattle.yaml_write.specs.LocalTags.{local_tag, value_tag}
use Rattle.yaml_write.specs.Outcomes.{Outcome, made, joined, under, string_node}
use Rattle.yaml_write.specs.WriteRefusals.{IsOfData, has_bytes, has_nested_tags}
use Rattle.yaml_write.specs.Written.{written, written_tuple, written_struct, written_elements, written_items}
use Rattle.yaml_write.specs.Written.{written_entries, written_fields, variant_by, content_by}
use Rattle.yaml_write.specs.WrittenValue.{written_value, written_values, written_pairs, pair_node, pair_before}

-- what is written, or refused for what lies in the data
abbrev Refused : {A : Type 0} → Result A Cause → Type 0
Refused r = IfErr r IsOfData

-- what is made of a part, and of two
of_made : {A B : Type 0} (f : A → B) (r : Result A Cause) → Refused r → Refused (made f r)
of_made f (Ok a) h = tt
of_made f (Err cause) h = h

of_joined : {A B C : Type 0} (f : A → B → C) (r : Result A Cause) (s : Result B Cause) → Refused r → Refused s
    → Refused (joined f r s)
of_joined f (Ok a) s h k = of_made (f a) s k
of_joined f (Err cause) s h k = h

-- what is written under a tag of its own
of_under : (outer : Option (List ℕ)) (own : List ℕ) (write : Option (List ℕ) → Outcome)
    → ((tag : Option (List ℕ)) → Refused (write tag)) → Refused (under outer own write)
of_under None own write h = h (Some own)
of_under (Some outer) own write h = has_nested_tags

-- a variant
of_variant : (found : Option (List ℕ × PlainVariant)) (tag : Option (List ℕ))
    (write : PlainVariant → Option (List ℕ) → Outcome)
    → ((v : PlainVariant) (own : Option (List ℕ)) → Refused (write v own)) → Refused (variant_by found tag write)
of_variant None tag write h = tt
of_variant (Some (name, unit_variant)) tag write h = tt
of_variant (Some (name, newtype_variant inner)) tag write h =
    of_under tag (local_tag name) (write (newtype_variant inner)) (h (newtype_variant inner))
of_variant (Some (name, tuple_variant ids)) tag write h =
    of_under tag (local_tag name) (write (tuple_variant ids)) (h (tuple_variant ids))
of_variant (Some (name, struct_variant strict fields)) tag write h =
    of_under tag (local_tag name) (write (struct_variant strict fields)) (h (struct_variant strict fields))

-- its content
of_content : (own : Option (List ℕ)) (newtype : ℕ → Outcome) (tuple : List ℕ → Outcome)
    (named : List (List ℕ × ℕ) → Outcome)
    → ((id : ℕ) → Refused (newtype id)) → ((ids : List ℕ) → Refused (tuple ids))
    → ((fields : List (List ℕ × ℕ)) → Refused (named fields))
    → (v : PlainVariant) → Refused (content_by own newtype tuple named v)
of_content own newtype tuple named h k l unit_variant = tt
of_content own newtype tuple named h k l (newtype_variant inner) = h inner
of_content own newtype tuple named h k l (tuple_variant ids) = k ids
of_content own newtype tuple named h k l (struct_variant strict fields) = l fields

mutual
  -- any value
  pub value_refused : (t : Tree) (tag : Option (List ℕ)) → Refused (written_value tag t)
  value_refused null tag = tt
  value_refused (boolean b) tag = tt
  value_refused (number z) tag = tt
  value_refused (string text) tag = tt
  value_refused (sequence ts) tag = of_made (emit_sequence_node tag) (written_values ts) (values_refused ts)
  value_refused (mapping ps) tag = of_made (emit_mapping_node tag) (written_pairs ps) (pairs_refused ps)
  value_refused (tagged own t) tag =
      of_under tag (value_tag own) (λ new. written_value new t) (λ new. value_refused t new)

  values_refused : (ts : Trees) → Refused (written_values ts)
  values_refused no_trees = tt
  values_refused (tree t ts) =
      of_joined emit_node (written_value None t) (written_values ts) (value_refused t None) (values_refused ts)

  pairs_refused : (ps : Pairs) → Refused (written_pairs ps)
  pairs_refused no_pairs = tt
  pairs_refused (pair k v ps) =
      of_joined pair_before (joined pair_node (written_value None k) (written_value None v)) (written_pairs ps)
      (of_joined pair_node (written_value None k) (written_value None v) (value_refused k None) (value_refused v None))
      (pairs_refused ps)

module _ (t : List PlainShape) where
  mutual
    -- data of any shape
    pub data_refused : (d : PlainData) (id : ℕ) (tag : Option (List ℕ)) → Refused (written t id tag d)
    data_refused (any_data v) id tag = value_refused v tag
    data_refused (bool_data b) id tag = tt
    data_refused (char_data c) id tag = tt
    data_refused (signed_data z) id tag = tt
    data_refused (unsigned_data n) id tag = tt
    data_refused (text_data lent text) id tag = tt
    data_refused (bytes_data bytes) id tag = has_bytes
    data_refused none_data id tag = tt
    data_refused (some_data d) id tag = data_refused d (inner_shape (shape_at t id)) tag
    data_refused unit_data id tag = tt
    data_refused (newtype_data d) id tag = data_refused d (inner_shape (shape_at t id)) tag
    data_refused (seq_data ds) id tag =
        of_made (emit_sequence_node tag) (written_elements t (element_shape (shape_at t id)) ds)
        (elements_refused ds (element_shape (shape_at t id)))
    data_refused (tuple_data ds) id tag =
        of_made (emit_sequence_node tag) (written_items t (item_shapes (shape_at t id)) ds)
        (items_refused ds (item_shapes (shape_at t id)))
    data_refused (map_data es) id tag =
        of_made (emit_mapping_node tag)
        (written_entries t (key_shape (shape_at t id)) (value_shape (shape_at t id)) es)
        (entries_refused es (key_shape (shape_at t id)) (value_shape (shape_at t id)))
    data_refused (struct_data ds) id tag =
        of_made (emit_mapping_node tag) (written_fields t (named_fields (shape_at t id)) ds)
        (fields_refused ds (named_fields (shape_at t id)))
    data_refused (variant_data place d) id tag =
        of_variant (slice_get (named_variants (shape_at t id)) place) tag _
        (λ v own. of_content own (λ inner. written t inner own d) (λ ids. written_tuple t ids own d)
        (λ fields. written_struct t fields own d) (λ inner. data_refused d inner own)
        (λ ids. tuple_refused d ids own) (λ fields. struct_refused d fields own) v)
    data_refused ignored_data id tag = tt

    -- the content of a variant without and with names
    tuple_refused : (d : PlainData) (ids : List ℕ) (tag : Option (List ℕ)) → Refused (written_tuple t ids tag d)
    tuple_refused (tuple_data ds) ids tag =
        of_made (emit_sequence_node tag) (written_items t ids ds) (items_refused ds ids)
    tuple_refused _ ids tag = tt

    struct_refused : (d : PlainData) (fields : List (List ℕ × ℕ)) (tag : Option (List ℕ))
        → Refused (written_struct t fields tag d)
    struct_refused (struct_data ds) fields tag =
        of_made (emit_mapping_node tag) (written_fields t fields ds) (fields_refused ds fields)
    struct_refused _ fields tag = tt

    -- parts
    elements_refused : (ds : PlainItems) (id : ℕ) → Refused (written_elements t id ds)
    elements_refused no_items id = tt
    elements_refused (item d ds) id =
        of_joined emit_node (written t id None d) (written_elements t id ds) (data_refused d id None)
        (elements_refused ds id)

    items_refused : (ds : PlainItems) (ids : List ℕ) → Refused (written_items t ids ds)
    items_refused ds [] = tt
    items_refused no_items (id ∷ ids) = tt
    items_refused (item d ds) (id ∷ ids) =
        of_joined emit_node (written t id None d) (written_items t ids ds) (data_refused d id None)
        (items_refused ds ids)

    entries_refused : (es : PlainEntries) (key value : ℕ) → Refused (written_entries t key value es)
    entries_refused no_entries key value = tt
    entries_refused (entry k v es) key value =
        of_joined pair_before (joined pair_node (written t key None k) (written t value None v))
        (written_entries t key value es)
        (of_joined pair_node (written t key None k) (written t value None v) (data_refused k key None)
        (data_refused v value None))
        (entries_refused es key value)

    fields_refused : (ds : PlainItems) (fields : List (List ℕ × ℕ)) → Refused (written_fields t fields ds)
    fields_refused ds [] = tt
    fields_refused no_items (field ∷ fields) = tt
    fields_refused (item d ds) (field ∷ fields) =
        of_joined pair_before (made (pair_node (string_node None field.0)) (written t field.1 None d))
        (written_fields t fields ds)
        (of_made (pair_node (string_node None field.0)) (written t field.1 None d) (data_refused d field.1 None))
        (fields_refused ds fields)

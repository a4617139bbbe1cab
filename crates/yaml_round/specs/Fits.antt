-- Which data reads back where it was written.
use Rattle.std.specs.Prelude.{◌≡◌, ℕ, ◌≤◌, List, [], ◌∷◌, Bool, true, false, not, ◌&&◌, ◌==◌, IsTrue, Option, None}
use Rattle.std.specs.Prelude.{Some, Ok, codes, bytes_eq, slice_get}
use Rattle.yaml_base.specs.EmitTree.{EmitNode, emit_scalar_node}
use Rattle.yaml_base.specs.declared.emitter.AskedStyle.TheVariants.{Plain}
use Rattle.yaml_tree.specs.Tree.{Tree, sequence, mapping, tagged, Trees, no_trees, tree, Pairs, no_pairs, pair}
use Rattle.yaml_shape.specs.HasShape.{HasShape}
use Rattle.yaml_shape.specs.PlainData.{PlainData, any_data, some_data, newtype_data, seq_data, tuple_data, map_data}
use Rattle.yaml_shape.specs.PlainData.{struct_data, variant_data}
use Rattle.yaml_shape.specs.PlainData.{PlainItems, no_items, item, PlainEntries, no_entries, entry}
use Rattle.yaml_shape.specs.PlainShape.{PlainShape, PlainVariant, unit_variant, newtype_variant, tuple_variant}
use Rattle.yaml_shape.specs.PlainShape.{struct_variant, shape_at}
use Rattle.yaml_shape.specs.Validity.{numbers_of}
use Rattle.yaml_write.specs.InShape.{inner_shape, element_shape, item_shapes, key_shape, value_shape, named_fields}
use Rattle.yaml_write.specs.InShape.{named_variants}
use Rattle.yaml_write.specs.Outcomes.{Outcome}
use Rattle.yaml_write.specs.Written.{written}
use Rattle.yaml_printed.specs.Nestings.{nestings}

-- the text begins with two `!` (byte 33)
abbrev pub begins_with_two : List ℕ → Bool
begins_with_two (c ∷ (d ∷ cs)) = c == 33 && d == 33
begins_with_two _ = false

abbrev mutual
  -- no tag in the value begins with two `!`
  pub tree_fits : Tree → Bool
  tree_fits (sequence ts) = trees_fit ts
  tree_fits (mapping ps) = pairs_fit ps
  tree_fits (tagged s t) = not (begins_with_two s) && tree_fits t
  tree_fits _ = true

  pub trees_fit : Trees → Bool
  trees_fit no_trees = true
  trees_fit (tree t ts) = tree_fits t && trees_fit ts

  pub pairs_fit : Pairs → Bool
  pairs_fit no_pairs = true
  pairs_fit (pair k v ps) = tree_fits k && (tree_fits v && pairs_fit ps)

-- it is the one plain scalar `null`, without a tag
abbrev pub is_null_node : EmitNode → Bool
is_null_node (emit_scalar_node None text Plain) = bytes_eq text (codes "null")
is_null_node _ = false

-- what is written is that scalar
abbrev pub is_written_null : Outcome → Bool
is_written_null (Ok e) = is_null_node e
is_written_null _ = false

-- the name of a variant is there, and does not begin with `!`
abbrev pub is_variant_name : List ℕ → Bool
is_variant_name [] = false
is_variant_name (c ∷ cs) = not (c == 33)

-- the variant's name is one, and its content passes the test for what it is
abbrev pub variant_passes : (ℕ → Bool) → (List ℕ → Bool) → Option (List ℕ × PlainVariant) → Bool
variant_passes inner items None = false
variant_passes inner items (Some (name, unit_variant)) = is_variant_name name
variant_passes inner items (Some (name, newtype_variant id)) = is_variant_name name && inner id
variant_passes inner items (Some (name, tuple_variant ids)) = is_variant_name name && items ids
variant_passes inner items (Some (name, struct_variant strict fields)) =
    is_variant_name name && items (numbers_of fields)

-- No present optional has a content that is written as null by itself, no variant is without a name or has one that
-- begins with `!`, and no tag of a value begins with two.
abbrev mutual
  pub data_fits : List PlainShape → (id : ℕ) → PlainData → Bool
  data_fits t id (any_data v) = tree_fits v
  data_fits t id (some_data d) =
      not (is_written_null (written t (inner_shape (shape_at t id)) None d))
      && data_fits t (inner_shape (shape_at t id)) d
  data_fits t id (newtype_data d) = data_fits t (inner_shape (shape_at t id)) d
  data_fits t id (seq_data ds) = all_fit t (element_shape (shape_at t id)) ds
  data_fits t id (tuple_data ds) = each_fits t (item_shapes (shape_at t id)) ds
  data_fits t id (map_data es) = entries_fit t (key_shape (shape_at t id)) (value_shape (shape_at t id)) es
  data_fits t id (struct_data ds) = each_fits t (numbers_of (named_fields (shape_at t id))) ds
  data_fits t id (variant_data place d) =
      variant_passes (λ inner. data_fits t inner d) (λ ids. parts_fit t ids d)
      (slice_get (named_variants (shape_at t id)) place)
  data_fits t id _ = true

  -- the parts of a variant's content
  pub parts_fit : List PlainShape → (ids : List ℕ) → PlainData → Bool
  parts_fit t ids (tuple_data ds) = each_fits t ids ds
  parts_fit t ids (struct_data ds) = each_fits t ids ds
  parts_fit t ids _ = true

  -- elements, all of one shape
  pub all_fit : List PlainShape → (id : ℕ) → PlainItems → Bool
  all_fit t id no_items = true
  all_fit t id (item d ds) = data_fits t id d && all_fit t id ds

  -- items, each of its own shape
  pub each_fits : List PlainShape → (ids : List ℕ) → PlainItems → Bool
  each_fits t (id ∷ ids) (item d ds) = data_fits t id d && each_fits t ids ds
  each_fits t _ _ = true

  -- keys of one shape, each with its value of another
  pub entries_fit : List PlainShape → (key : ℕ) → (value : ℕ) → PlainEntries → Bool
  entries_fit t key value no_entries = true
  entries_fit t key value (entry k v es) =
      data_fits t key k && (data_fits t value v && entries_fit t key value es)

-- Data of a shape reads back within so many nestings: it is of the shape, it is written, and nothing in it is lost.
pub record Fits (nesting : ℕ) (t : List PlainShape) (id : ℕ) (d : PlainData) : Type 0 where
  pub typed : HasShape t id d
  pub written : (e : EmitNode) × (written t id None d ≡ Ok e)
  pub nests_within : nestings d ≤ nesting
  pub returns : IsTrue (data_fits t id d)

-- each of the elements, all of one shape, reads back within so many nestings
abbrev pub EachFits : (nesting : ℕ) → List PlainShape → (id : ℕ) → PlainItems → Type 0
EachFits nesting t id no_items = Unit {0}
EachFits nesting t id (item d ds) = Fits nesting t id d × EachFits nesting t id ds

-- Whether data of a shape is written, nests within a limit and loses nothing, by one walk over it. That this is what
-- `Fits` says, is proved.
use Rattle.std.specs.Prelude.{ℕ, ◌-◌, List, [], ◌∷◌, Bool, true, false, not, ◌&&◌, nat_lt, slice_get}
use Rattle.yaml_tree.specs.Tree.{Tree, null, sequence, mapping, tagged, Trees, no_trees, tree, Pairs, no_pairs, pair}
use Rattle.yaml_shape.specs.HasShape.{passes, on_option, on_newtype, on_seq, on_tuple, on_map, on_struct, on_content}
use Rattle.yaml_shape.specs.PlainData.{PlainData, any_data, bytes_data, none_data, some_data, unit_data, newtype_data}
use Rattle.yaml_shape.specs.PlainData.{seq_data, tuple_data, map_data, struct_data, variant_data, ignored_data}
use Rattle.yaml_shape.specs.PlainData.{PlainItems, no_items, item, PlainEntries, no_entries, entry}
use Rattle.yaml_shape.specs.PlainShape.{PlainShape, PlainVariant, enum_shape, shape_at}
use Rattle.yaml_round.specs.Fits.{begins_with_two, is_variant_name}

-- it is written as null where it has no tag
abbrev pub is_null : PlainData → Bool
is_null (any_data null) = true
is_null none_data = true
is_null (some_data d) = is_null d
is_null unit_data = true
is_null (newtype_data d) = is_null d
is_null ignored_data = true
is_null _ = false

-- the shape is an enum, whose variant at this place passes the test with its name
abbrev pub on_named : ℕ → (List ℕ × PlainVariant → Bool) → PlainShape → Bool
on_named place test (enum_shape name variants) = passes (slice_get variants place) test
on_named place test _ = false

abbrev mutual
  -- a value, under a tag or not, within so many nestings
  pub value_survives : (under : Bool) → (depth : ℕ) → Tree → Bool
  value_survives under depth (sequence ts) = nat_lt 0 depth && values_survive (depth - 1) ts
  value_survives under depth (mapping ps) = nat_lt 0 depth && pairs_survive (depth - 1) ps
  value_survives under depth (tagged s t) =
      not under && (not (begins_with_two s) && value_survives true depth t)
  value_survives under depth _ = true

  pub values_survive : (depth : ℕ) → Trees → Bool
  values_survive depth no_trees = true
  values_survive depth (tree t ts) = value_survives false depth t && values_survive depth ts

  pub pairs_survive : (depth : ℕ) → Pairs → Bool
  pairs_survive depth no_pairs = true
  pairs_survive depth (pair k v ps) =
      (value_survives false depth k && value_survives false depth v) && pairs_survive depth ps

abbrev mutual
  -- data of the shape with this number, under a tag or not, within so many nestings
  pub survives : List PlainShape → (id : ℕ) → (under : Bool) → (depth : ℕ) → PlainData → Bool
  survives t id under depth (any_data v) = value_survives under depth v
  survives t id under depth (bytes_data bytes) = false
  survives t id under depth (some_data d) =
      passes (shape_at t id) (on_option (λ content. not (is_null d) && survives t content under depth d))
  survives t id under depth (newtype_data d) =
      passes (shape_at t id) (on_newtype (λ inner. nat_lt 0 depth && survives t inner under (depth - 1) d))
  survives t id under depth (seq_data ds) =
      passes (shape_at t id) (on_seq (λ element. nat_lt 0 depth && all_survive t element (depth - 1) ds))
  survives t id under depth (tuple_data ds) =
      passes (shape_at t id) (on_tuple (λ ids. nat_lt 0 depth && each_survives t ids (depth - 1) ds))
  survives t id under depth (map_data es) =
      passes (shape_at t id) (on_map (λ key value. nat_lt 0 depth && entries_survive t key value (depth - 1) es))
  survives t id under depth (struct_data ds) =
      passes (shape_at t id) (on_struct (λ ids. nat_lt 0 depth && each_survives t ids (depth - 1) ds))
  survives t id under depth (variant_data place d) =
      passes (shape_at t id)
      (on_named place
      (λ v. is_variant_name v.0 && on_content true (λ j. not under && survives t j true depth d)
      (λ js. not under && row_survives t js depth d) (λ js. not under && fields_survive t js depth d) v.1))
  survives t id under depth _ = true

  -- the content of a variant whose fields have no names
  pub row_survives : List PlainShape → List ℕ → (depth : ℕ) → PlainData → Bool
  row_survives t ids depth (tuple_data ds) = nat_lt 0 depth && each_survives t ids (depth - 1) ds
  row_survives t ids depth _ = false

  -- the content of a variant whose fields have names
  pub fields_survive : List PlainShape → List ℕ → (depth : ℕ) → PlainData → Bool
  fields_survive t ids depth (struct_data ds) = nat_lt 0 depth && each_survives t ids (depth - 1) ds
  fields_survive t ids depth _ = false

  -- elements, all of one shape
  pub all_survive : List PlainShape → (id : ℕ) → (depth : ℕ) → PlainItems → Bool
  all_survive t id depth no_items = true
  all_survive t id depth (item d ds) = survives t id false depth d && all_survive t id depth ds

  -- as many items as shapes, each of its own
  pub each_survives : List PlainShape → List ℕ → (depth : ℕ) → PlainItems → Bool
  each_survives t [] depth no_items = true
  each_survives t (id ∷ ids) depth (item d ds) = survives t id false depth d && each_survives t ids depth ds
  each_survives t [] depth (item d ds) = false
  each_survives t (id ∷ ids) depth no_items = false

  -- keys of one shape, each with its value of another
  pub entries_survive : List PlainShape → (key : ℕ) → (value : ℕ) → (depth : ℕ) → PlainEntries → Bool
  entries_survive t key value depth no_entries = true
  entries_survive t key value depth (entry k v es) =
      (survives t key false depth k && survives t value false depth v) && entries_survive t key value depth es

-- the content of a variant, whose name is a tag for it
abbrev pub content_survives : List PlainShape → (under : Bool) → (depth : ℕ) → PlainData → PlainVariant → Bool
content_survives t under depth d v =
    on_content true (λ j. not under && survives t j true depth d) (λ js. not under && row_survives t js depth d)
    (λ js. not under && fields_survive t js depth d) v

-- a variant with its name
abbrev pub variant_survives : List PlainShape → (under : Bool) → (depth : ℕ) → PlainData → List ℕ × PlainVariant → Bool
variant_survives t under depth d v = is_variant_name v.0 && content_survives t under depth d v.1

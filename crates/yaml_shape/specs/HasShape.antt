-- Which data a shape has.
use Rattle.std.specs.Prelude.{ℕ, ℤ, pos, List, [], ◌∷◌, Bool, true, false, not, ◌&&◌, IsTrue}
use Rattle.std.specs.Prelude.{Option, Some, None, slice_get}
use Rattle.yaml_shape.specs.IntegerTypes.{has_sign, is_of_type}
use Rattle.yaml_shape.specs.PlainShape.{PlainShape, any_shape, bool_shape, char_shape, integer_shape, str_shape}
use Rattle.yaml_shape.specs.PlainShape.{identifier_shape, bytes_shape, option_shape, unit_shape, unit_struct_shape}
use Rattle.yaml_shape.specs.PlainShape.{newtype_shape, seq_shape, row_shape, map_shape, fields_shape, enum_shape}
use Rattle.yaml_shape.specs.PlainShape.{ignored_shape, shape_at, PlainVariant, unit_variant, newtype_variant}
use Rattle.yaml_shape.specs.PlainShape.{tuple_variant, struct_variant}
use Rattle.yaml_shape.specs.PlainData.{PlainData, PlainItems, PlainEntries, any_data, bool_data, char_data, signed_data}
use Rattle.yaml_shape.specs.PlainData.{unsigned_data, text_data, bytes_data, none_data, some_data, unit_data}
use Rattle.yaml_shape.specs.PlainData.{newtype_data}
use Rattle.yaml_shape.specs.PlainData.{seq_data, tuple_data, map_data, struct_data, variant_data, ignored_data}
use Rattle.yaml_shape.specs.PlainData.{no_items, item, no_entries, entry}
use Rattle.yaml_shape.specs.Validity.{numbers_of}

-- the value is there and passes the test
abbrev pub passes : {A : Type 0} → Option A → (A → Bool) → Bool
passes None test = false
passes (Some x) test = test x

-- the shape is that of any value
abbrev pub is_any : PlainShape → Bool
is_any any_shape = true
is_any _ = false

-- the shape is that of booleans
abbrev pub is_bool : PlainShape → Bool
is_bool bool_shape = true
is_bool _ = false

-- the shape is that of characters
abbrev pub is_char : PlainShape → Bool
is_char char_shape = true
is_char _ = false

-- the shape is that of integers with a sign, this one among them
abbrev pub takes_signed : ℤ → PlainShape → Bool
takes_signed z (integer_shape i) = has_sign i && is_of_type i z
takes_signed z _ = false

-- the shape is that of integers without a sign, this one among them
abbrev pub takes_unsigned : ℕ → PlainShape → Bool
takes_unsigned n (integer_shape i) = not (has_sign i) && is_of_type i (pos n)
takes_unsigned n _ = false

-- the shape is that of texts or names
abbrev pub is_text : PlainShape → Bool
is_text str_shape = true
is_text identifier_shape = true
is_text _ = false

-- the shape is that of bytes
abbrev pub is_bytes : PlainShape → Bool
is_bytes bytes_shape = true
is_bytes _ = false

-- the shape is an optional, whose content passes the test
abbrev pub on_option : (ℕ → Bool) → PlainShape → Bool
on_option test (option_shape content) = test content
on_option test _ = false

-- the shape is that of nothing
abbrev pub is_unit : PlainShape → Bool
is_unit unit_shape = true
is_unit (unit_struct_shape name) = true
is_unit _ = false

-- the shape is a struct around one content, which passes the test
abbrev pub on_newtype : (ℕ → Bool) → PlainShape → Bool
on_newtype test (newtype_shape name inner) = test inner
on_newtype test _ = false

-- the shape is a sequence, whose elements pass the test
abbrev pub on_seq : (ℕ → Bool) → PlainShape → Bool
on_seq test (seq_shape element) = test element
on_seq test _ = false

-- the shape is a tuple, a tuple struct or a tuple variant, whose shapes pass the test
abbrev pub on_tuple : (List ℕ → Bool) → PlainShape → Bool
on_tuple test (row_shape owner items) = test items
on_tuple test _ = false

-- the shape is a mapping, whose keys and values pass the test
abbrev pub on_map : (ℕ → ℕ → Bool) → PlainShape → Bool
on_map test (map_shape key value) = test key value
on_map test _ = false

-- the shape is a struct or a struct variant, the shapes of whose fields pass the test
abbrev pub on_struct : (List ℕ → Bool) → PlainShape → Bool
on_struct test (fields_shape strict owner fields) = test (numbers_of fields)
on_struct test _ = false

-- the shape is an enum, whose variant at this place has a content that passes the test
abbrev pub on_variant : ℕ → (PlainVariant → Bool) → PlainShape → Bool
on_variant place test (enum_shape name variants) = passes (slice_get variants place) (λ v. test v.1)
on_variant place test _ = false

-- the shape is that of nodes that are stepped over
abbrev pub is_ignored : PlainShape → Bool
is_ignored ignored_shape = true
is_ignored _ = false

-- the data is nothing
abbrev pub is_unit_data : PlainData → Bool
is_unit_data unit_data = true
is_unit_data _ = false

-- a test of a variant's content, by what it is
abbrev pub on_content : Bool → (ℕ → Bool) → (List ℕ → Bool) → (List ℕ → Bool) → PlainVariant → Bool
on_content unit inner items fields unit_variant = unit
on_content unit inner items fields (newtype_variant id) = inner id
on_content unit inner items fields (tuple_variant ids) = items ids
on_content unit inner items fields (struct_variant strict named) = fields (numbers_of named)

abbrev mutual
  -- the data is of the shape with this number. The table may lead back to itself, but the data gets smaller.
  pub has_shape : List PlainShape → ℕ → PlainData → Bool
  has_shape t id (any_data v) = passes (shape_at t id) is_any
  has_shape t id (bool_data b) = passes (shape_at t id) is_bool
  has_shape t id (char_data c) = passes (shape_at t id) is_char
  has_shape t id (signed_data z) = passes (shape_at t id) (takes_signed z)
  has_shape t id (unsigned_data n) = passes (shape_at t id) (takes_unsigned n)
  has_shape t id (text_data lent s) = passes (shape_at t id) is_text
  has_shape t id (bytes_data s) = passes (shape_at t id) is_bytes
  has_shape t id none_data = passes (shape_at t id) (on_option (λ content. true))
  has_shape t id (some_data d) = passes (shape_at t id) (on_option (λ content. has_shape t content d))
  has_shape t id unit_data = passes (shape_at t id) is_unit
  has_shape t id (newtype_data d) = passes (shape_at t id) (on_newtype (λ inner. has_shape t inner d))
  has_shape t id (seq_data ds) = passes (shape_at t id) (on_seq (λ element. all_have t element ds))
  has_shape t id (tuple_data ds) = passes (shape_at t id) (on_tuple (λ ids. each_has t ids ds))
  has_shape t id (map_data es) = passes (shape_at t id) (on_map (λ key value. entries_have t key value es))
  has_shape t id (struct_data ds) = passes (shape_at t id) (on_struct (λ ids. each_has t ids ds))
  has_shape t id (variant_data place d) =
      passes (shape_at t id)
      (on_variant place
      (on_content (is_unit_data d) (λ j. has_shape t j d) (λ js. tuple_has t js d) (λ js. struct_has t js d)))
  has_shape t id ignored_data = passes (shape_at t id) is_ignored

  -- the data is a tuple of these shapes
  pub tuple_has : List PlainShape → List ℕ → PlainData → Bool
  tuple_has t ids (tuple_data ds) = each_has t ids ds
  tuple_has t ids _ = false

  -- the data is the fields of these shapes
  pub struct_has : List PlainShape → List ℕ → PlainData → Bool
  struct_has t ids (struct_data ds) = each_has t ids ds
  struct_has t ids _ = false

  -- each element is of the shape
  pub all_have : List PlainShape → ℕ → PlainItems → Bool
  all_have t id no_items = true
  all_have t id (item d ds) = has_shape t id d && all_have t id ds

  -- there are as many elements as shapes, and each is of its own
  pub each_has : List PlainShape → List ℕ → PlainItems → Bool
  each_has t [] no_items = true
  each_has t (id ∷ ids) (item d ds) = has_shape t id d && each_has t ids ds
  each_has t [] (item d ds) = false
  each_has t (id ∷ ids) no_items = false

  -- each key is of the first shape, each value of the second
  pub entries_have : List PlainShape → ℕ → ℕ → PlainEntries → Bool
  entries_have t key value no_entries = true
  entries_have t key value (entry k v es) = has_shape t key k && (has_shape t value v && entries_have t key value es)

-- the data is what a variant holds
abbrev pub has_content : List PlainShape → PlainData → PlainVariant → Bool
has_content t d content =
    on_content (is_unit_data d) (λ j. has_shape t j d) (λ js. tuple_has t js d) (λ js. struct_has t js d) content

-- data of the shape with this number
abbrev pub HasShape : List PlainShape → ℕ → PlainData → Type 0
HasShape shapes id d = IsTrue (has_shape shapes id d)

-- What a shape says of the parts of its data. Of data that hasn't the shape nothing is said that matters.
use Rattle.std.specs.Prelude.{ℕ, List, [], Option, Some}
use Rattle.yaml_shape.specs.PlainShape.{PlainShape, option_shape, newtype_shape, seq_shape, row_shape, map_shape}
use Rattle.yaml_shape.specs.PlainShape.{fields_shape, enum_shape, PlainVariant}

-- the shape of the content of an optional or of a struct around one
abbrev pub inner_shape : Option PlainShape → ℕ
inner_shape (Some (option_shape content)) = content
inner_shape (Some (newtype_shape name inner)) = inner
inner_shape _ = 0

-- the shape of the elements of a sequence
abbrev pub element_shape : Option PlainShape → ℕ
element_shape (Some (seq_shape element)) = element
element_shape _ = 0

-- the shapes of elements in a row
abbrev pub item_shapes : Option PlainShape → List ℕ
item_shapes (Some (row_shape owner items)) = items
item_shapes _ = []

-- the shape of the keys of a mapping
abbrev pub key_shape : Option PlainShape → ℕ
key_shape (Some (map_shape key value)) = key
key_shape _ = 0

-- the shape of the values of a mapping
abbrev pub value_shape : Option PlainShape → ℕ
value_shape (Some (map_shape key value)) = value
value_shape _ = 0

-- the names of fields, each with its shape
abbrev pub named_fields : Option PlainShape → List (List ℕ × ℕ)
named_fields (Some (fields_shape strict owner fields)) = fields
named_fields _ = []

-- the variants of an enum, each with its name
abbrev pub named_variants : Option PlainShape → List (List ℕ × PlainVariant)
named_variants (Some (enum_shape name variants)) = variants
named_variants _ = []

-- What is known of data and of shapes that are held in memory: their texts are UTF-8, their characters are characters,
-- and their values are values.
use Rattle.std.specs.Prelude.{List, ℕ, Bool, true, false, ◌&&◌, IsTrue}
use Rattle.std.specs.Char.{IsScalar}
use Rattle.std.specs.List.{list_all}
use Rattle.std.specs.Str.{is_utf8}
use Rattle.yaml_tree.specs.Valid.{is_value}
use Rattle.yaml_shape.specs.PlainData.{PlainData, any_data, char_data, text_data, some_data, newtype_data, seq_data}
use Rattle.yaml_shape.specs.PlainData.{tuple_data, map_data, struct_data, variant_data}
use Rattle.yaml_shape.specs.PlainData.{PlainItems, no_items, item, PlainEntries, no_entries, entry}
use Rattle.yaml_shape.specs.PlainShape.{PlainShape, row_shape, fields_shape, enum_shape, of_struct, of_variant}
use Rattle.yaml_shape.specs.PlainShape.{PlainVariant, struct_variant}
use Rattle.yaml_shape.specs.Validity.{names_of}

abbrev mutual
  -- data that can be held
  pub IsHeld : PlainData → Type 0
  IsHeld (any_data t) = IsTrue (is_value t)
  IsHeld (char_data c) = IsScalar c
  IsHeld (text_data lent text) = IsTrue (is_utf8 text)
  IsHeld (some_data d) = IsHeld d
  IsHeld (newtype_data d) = IsHeld d
  IsHeld (seq_data ds) = AreHeld ds
  IsHeld (tuple_data ds) = AreHeld ds
  IsHeld (map_data es) = EntriesAreHeld es
  IsHeld (struct_data ds) = AreHeld ds
  IsHeld (variant_data place d) = IsHeld d
  IsHeld _ = Unit {0}

  pub AreHeld : PlainItems → Type 0
  AreHeld no_items = Unit {0}
  AreHeld (item d ds) = IsHeld d × AreHeld ds

  pub EntriesAreHeld : PlainEntries → Type 0
  EntriesAreHeld no_entries = Unit {0}
  EntriesAreHeld (entry k v es) = IsHeld k × IsHeld v × EntriesAreHeld es

-- the names are texts
abbrev pub are_texts : List (List ℕ) → Bool
are_texts names = list_all is_utf8 names

-- the names in the content of a variant are texts
abbrev pub is_named_content : PlainVariant → Bool
is_named_content (struct_variant strict fields) = are_texts (names_of fields)
is_named_content _ = true

-- The names in the shape are texts, and it is one of a table: not the content of a variant, as it is read, nor fields
-- that are nobody's by name.
abbrev pub is_table_shape : PlainShape → Bool
is_table_shape (fields_shape strict (of_struct name) fields) = are_texts (names_of fields)
is_table_shape (enum_shape name variants) =
    are_texts (names_of variants) && list_all (λ v. is_named_content v.1) variants
is_table_shape (fields_shape strict owner fields) = false
is_table_shape (row_shape (of_variant name variant) items) = false
is_table_shape _ = true

-- the table is one of shapes that are held
abbrev pub is_table : List PlainShape → Bool
is_table table = list_all is_table_shape table

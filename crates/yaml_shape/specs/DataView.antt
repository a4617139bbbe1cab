-- The plain data of data.
use Rattle.std.specs.Prelude.{List, [], ◌∷◌, map, true, false, string_bytes}
use Rattle.yaml_tree.specs.View.{tree_of}
use Rattle.yaml_shape.specs.PlainData.{PlainData, PlainItems, PlainEntries, any_data, bool_data, char_data, signed_data}
use Rattle.yaml_shape.specs.PlainData.{unsigned_data, text_data, bytes_data, none_data, some_data, unit_data}
use Rattle.yaml_shape.specs.PlainData.{newtype_data}
use Rattle.yaml_shape.specs.PlainData.{seq_data, tuple_data, map_data, struct_data, variant_data, ignored_data}
use Rattle.yaml_shape.specs.PlainData.{no_items, item, no_entries, entry}
use Rattle.yaml_shape.specs.declared.text.Text.{Text}
use Rattle.yaml_shape.specs.declared.text.Text.TheVariants.{Borrowed, Owned}
use Rattle.yaml_shape.specs.declared.data.Data.{Data, fold-Data}
use Rattle.yaml_shape.specs.declared.data.Data.TheOpen.{Data-F, Entry-F}
use Rattle.yaml_shape.specs.declared.data.Entry.{Entry, fold-Entry}

-- the plain data of a text
abbrev pub text_data_of : Text → PlainData
text_data_of (Borrowed s) = text_data true s.now
text_data_of (Owned s) = text_data false (string_bytes s)

-- a list of plain data as the items of one
abbrev pub items_of : List PlainData → PlainItems
items_of [] = no_items
items_of (d ∷ ds) = item d (items_of ds)

-- a list of keys with values as the entries of one
abbrev pub entries_of : List (PlainData × PlainData) → PlainEntries
entries_of [] = no_entries
entries_of (e ∷ es) = entry e.0 e.1 (entries_of es)

-- one level, with each part seen as plain data already
abbrev pub data_level : Data-F PlainData (PlainData × PlainData) → PlainData
data_level (Data-F.Any v) = any_data (tree_of v)
data_level (Data-F.Bool b) = bool_data b
data_level (Data-F.Char c) = char_data c
data_level (Data-F.Signed z) = signed_data z
data_level (Data-F.Unsigned n) = unsigned_data n
data_level (Data-F.Str t) = text_data_of t
data_level (Data-F.Bytes v) = bytes_data v.items
data_level Data-F.None = none_data
data_level (Data-F.Some d) = some_data d.value
data_level Data-F.Unit = unit_data
data_level (Data-F.Newtype d) = newtype_data d.value
data_level (Data-F.Seq v) = seq_data (items_of v.items)
data_level (Data-F.Tuple v) = tuple_data (items_of v.items)
data_level (Data-F.Map v) = map_data (entries_of v.items)
data_level (Data-F.Struct v) = struct_data (items_of v.items)
data_level (Data-F.Variant place d) = variant_data place d.value
data_level Data-F.Ignored = ignored_data

-- a key with its value, each seen as plain data already
abbrev pub entry_level : Entry-F PlainData (PlainData × PlainData) → PlainData × PlainData
entry_level e = (e.key, e.value)

-- the plain data of data
abbrev pub data_of : Data → PlainData
data_of = fold-Data PlainData (PlainData × PlainData) data_level entry_level

-- the plain items of a list of data
abbrev pub items_view : List Data → PlainItems
items_view ds = items_of (map data_of ds)

-- a key with its value, each as plain data
abbrev pub entry_of : Entry → PlainData × PlainData
entry_of = fold-Entry PlainData (PlainData × PlainData) data_level entry_level

-- the plain entries of a list of keys with values
abbrev pub entries_view : List Entry → PlainEntries
entries_view es = entries_of (map entry_of es)

-- When data is equal: part by part, texts by their bytes, lent or not, and values as their trees are equal.
use Rattle.std.specs.Prelude.{IsTrue, Bool, true, false, ◌&&◌, nat_eq, bytes_eq}
use Rattle.std.specs.Bool.{beq}
use Rattle.std.specs.Ordering.{int_eq}
use Rattle.yaml_tree.specs.Equal.{tree_eq}
use Rattle.yaml_tree.specs.Tree.{Tree}
use Rattle.yaml_shape.specs.PlainData.{PlainData, PlainItems, PlainEntries, any_data, bool_data, char_data, signed_data}
use Rattle.yaml_shape.specs.PlainData.{unsigned_data, text_data, bytes_data, none_data, some_data, unit_data}
use Rattle.yaml_shape.specs.PlainData.{newtype_data, seq_data, tuple_data, map_data, struct_data, variant_data}
use Rattle.yaml_shape.specs.PlainData.{ignored_data, no_items, item, no_entries, entry}

abbrev mutual
  -- data of one kind, with equal parts, where a test tells when values are equal
  pub data_eq_by : (Tree → Tree → Bool) → PlainData → PlainData → Bool
  data_eq_by test (any_data a) (any_data b) = test a b
  data_eq_by test (bool_data a) (bool_data b) = beq a b
  data_eq_by test (char_data a) (char_data b) = nat_eq a b
  data_eq_by test (signed_data a) (signed_data b) = int_eq a b
  data_eq_by test (unsigned_data a) (unsigned_data b) = nat_eq a b
  data_eq_by test (text_data lent a) (text_data other b) = bytes_eq a b
  data_eq_by test (bytes_data a) (bytes_data b) = bytes_eq a b
  data_eq_by test none_data none_data = true
  data_eq_by test (some_data a) (some_data b) = data_eq_by test a b
  data_eq_by test unit_data unit_data = true
  data_eq_by test (newtype_data a) (newtype_data b) = data_eq_by test a b
  data_eq_by test (seq_data xs) (seq_data ys) = items_eq_by test xs ys
  data_eq_by test (tuple_data xs) (tuple_data ys) = items_eq_by test xs ys
  data_eq_by test (map_data xs) (map_data ys) = entries_eq_by test xs ys
  data_eq_by test (struct_data xs) (struct_data ys) = items_eq_by test xs ys
  data_eq_by test (variant_data i a) (variant_data j b) = nat_eq i j && data_eq_by test a b
  data_eq_by test ignored_data ignored_data = true
  data_eq_by test _ _ = false

  -- lists of data, element by element
  pub items_eq_by : (Tree → Tree → Bool) → PlainItems → PlainItems → Bool
  items_eq_by test no_items no_items = true
  items_eq_by test (item a xs) (item b ys) = data_eq_by test a b && items_eq_by test xs ys
  items_eq_by test _ _ = false

  -- lists of keys with values, pair by pair, in the same order
  pub entries_eq_by : (Tree → Tree → Bool) → PlainEntries → PlainEntries → Bool
  entries_eq_by test no_entries no_entries = true
  entries_eq_by test (entry k v xs) (entry l w ys) =
      data_eq_by test k l && (data_eq_by test v w && entries_eq_by test xs ys)
  entries_eq_by test _ _ = false

-- data, lists of data, and lists of keys with values, where values are equal as their trees are
abbrev pub data_eq : PlainData → PlainData → Bool
data_eq = data_eq_by tree_eq

abbrev pub items_eq : PlainItems → PlainItems → Bool
items_eq = items_eq_by tree_eq

abbrev pub entries_eq : PlainEntries → PlainEntries → Bool
entries_eq = entries_eq_by tree_eq

-- the data is equal
abbrev pub EqualData : PlainData → PlainData → Type 0
EqualData a b = IsTrue (data_eq a b)

-- The text of data.
use Rattle.std.specs.Prelude.{ℕ, List, [], ◌∷◌, ◌++◌, codes, decimal, if◌then◌else◌}
use Rattle.std.specs.Char.{encode_utf8}
use Rattle.std.specs.Fmt.{signed_decimal}
use Rattle.yaml_base.specs.Quoted.{quoted}
use Rattle.yaml_shape.specs.PlainData.{PlainData, PlainItems, PlainEntries, no_items, item, no_entries, entry}
use Rattle.yaml_shape.specs.PlainData.{any_data, bool_data, char_data, signed_data, unsigned_data, text_data}
use Rattle.yaml_shape.specs.PlainData.{bytes_data, none_data, some_data, unit_data, newtype_data, seq_data, tuple_data}
use Rattle.yaml_shape.specs.PlainData.{map_data, struct_data, variant_data, ignored_data}
use Rattle.yaml_lines.specs.Listed.{listed}
use Rattle.yaml_lines.specs.TreeText.{tree_text}

-- the text of data, and the texts of the items of a sequence and the entries of a mapping
abbrev mutual
  pub data_text : PlainData → List ℕ
  data_text (any_data t) = tree_text t
  data_text (bool_data b) = if b then codes "true" else codes "false"
  data_text (char_data c) = quoted (encode_utf8 c)
  data_text (signed_data z) = signed_decimal z
  data_text (unsigned_data n) = decimal n
  data_text (text_data lent text) = quoted text
  data_text (bytes_data bytes) = quoted bytes
  data_text none_data = codes "none"
  data_text (some_data content) = codes "some(" ++ (data_text content ++ codes ")")
  data_text unit_data = codes "()"
  data_text (newtype_data content) = codes "new(" ++ (data_text content ++ codes ")")
  data_text (seq_data items) = codes "[" ++ (listed (item_texts items) ++ codes "]")
  data_text (tuple_data items) = codes "(" ++ (listed (item_texts items) ++ codes ")")
  data_text (map_data entries) = codes "{" ++ (listed (entry_texts entries) ++ codes "}")
  data_text (struct_data items) = codes "struct(" ++ (listed (item_texts items) ++ codes ")")
  data_text (variant_data place content) = codes "variant " ++ (decimal place ++ (codes " " ++ data_text content))
  data_text ignored_data = codes "ignored"

  pub item_texts : PlainItems → List (List ℕ)
  item_texts no_items = []
  item_texts (item d items) = data_text d ∷ item_texts items

  pub entry_texts : PlainEntries → List (List ℕ)
  entry_texts no_entries = []
  entry_texts (entry key value entries) = (data_text key ++ (codes ": " ++ data_text value)) ∷ entry_texts entries

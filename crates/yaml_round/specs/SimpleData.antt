-- Data that always reads back: nothing in it can be lost, or refused, where it is written.
use Rattle.std.specs.Prelude.{Bool, true, false, ◌&&◌}
use Rattle.yaml_shape.specs.PlainData.{PlainData, any_data, some_data, newtype_data, seq_data, tuple_data, map_data}
use Rattle.yaml_shape.specs.PlainData.{struct_data, variant_data, bytes_data}
use Rattle.yaml_shape.specs.PlainData.{PlainItems, no_items, item, PlainEntries, no_entries, entry}

abbrev mutual
  -- no present optional, no variant, no value of any kind and no bytes stand in the data
  pub is_simple : PlainData → Bool
  is_simple (any_data v) = false
  is_simple (bytes_data bytes) = false
  is_simple (some_data d) = false
  is_simple (variant_data place d) = false
  is_simple (newtype_data d) = is_simple d
  is_simple (seq_data ds) = are_simple ds
  is_simple (tuple_data ds) = are_simple ds
  is_simple (map_data es) = entries_are_simple es
  is_simple (struct_data ds) = are_simple ds
  is_simple _ = true

  -- nor in any of a list
  pub are_simple : PlainItems → Bool
  are_simple no_items = true
  are_simple (item d ds) = is_simple d && are_simple ds

  -- nor in any key or value
  pub entries_are_simple : PlainEntries → Bool
  entries_are_simple no_entries = true
  entries_are_simple (entry k v es) = is_simple k && (is_simple v && entries_are_simple es)

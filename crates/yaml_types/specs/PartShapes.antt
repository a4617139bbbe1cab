-- Whether the parts of data are of the shapes of types.
use Rattle.std.specs.Prelude.{List, [], ◌∷◌, Bool, true, false, ◌&&◌}
use Rattle.yaml_shape.specs.HasShape.{has_shape}
use Rattle.yaml_shape.specs.PlainData.{PlainItems, PlainEntries, no_items, item, no_entries, entry}
use Rattle.yaml_types.specs.Start.{Start}

-- there are as many items as types, and each is of the shape of its own
abbrev pub items_match : List Start → PlainItems → Bool
items_match [] no_items = true
items_match (s ∷ ss) (item d ds) = has_shape s.0 s.1 d && items_match ss ds
items_match _ _ = false

-- each key is of the shape of the first type, and each value of that of the second
abbrev pub entries_match : Start → Start → PlainEntries → Bool
entries_match key value no_entries = true
entries_match key value (entry k v es) =
    has_shape key.0 key.1 k && (has_shape value.0 value.1 v && entries_match key value es)

-- How deep data goes: through collections, those of a value too, and through structs around one content.
use Rattle.std.specs.Prelude.{ℕ, suc, max}
use Rattle.yaml_tree.specs.Tree.{Tree, sequence, mapping, tagged, Trees, no_trees, tree, Pairs, no_pairs, pair}
use Rattle.yaml_shape.specs.PlainData.{PlainData, any_data, some_data, newtype_data, seq_data, tuple_data, map_data}
use Rattle.yaml_shape.specs.PlainData.{struct_data, variant_data}
use Rattle.yaml_shape.specs.PlainData.{PlainItems, no_items, item, PlainEntries, no_entries, entry}

abbrev mutual
  -- the nestings of a value along its deepest way
  pub tree_nestings : Tree → ℕ
  tree_nestings (sequence ts) = suc (trees_nestings ts)
  tree_nestings (mapping ps) = suc (pairs_nestings ps)
  tree_nestings (tagged s t) = tree_nestings t
  tree_nestings _ = 0

  -- the most of one
  pub trees_nestings : Trees → ℕ
  trees_nestings no_trees = 0
  trees_nestings (tree t ts) = max (tree_nestings t) (trees_nestings ts)

  -- the most of a key or a value
  pub pairs_nestings : Pairs → ℕ
  pairs_nestings no_pairs = 0
  pairs_nestings (pair k v ps) = max (tree_nestings k) (max (tree_nestings v) (pairs_nestings ps))

abbrev mutual
  -- the nestings of data along its deepest way
  pub nestings : PlainData → ℕ
  nestings (any_data t) = tree_nestings t
  nestings (some_data d) = nestings d
  nestings (newtype_data d) = suc (nestings d)
  nestings (seq_data ds) = suc (items_nestings ds)
  nestings (tuple_data ds) = suc (items_nestings ds)
  nestings (map_data es) = suc (entries_nestings es)
  nestings (struct_data ds) = suc (items_nestings ds)
  nestings (variant_data place d) = nestings d
  nestings _ = 0

  -- the most of one
  pub items_nestings : PlainItems → ℕ
  items_nestings no_items = 0
  items_nestings (item d ds) = max (nestings d) (items_nestings ds)

  -- the most of a key or a value
  pub entries_nestings : PlainEntries → ℕ
  entries_nestings no_entries = 0
  entries_nestings (entry k v es) = max (nestings k) (max (nestings v) (entries_nestings es))

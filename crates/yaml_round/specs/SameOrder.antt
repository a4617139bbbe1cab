-- When data is equal with the pairs of its mappings in one order: part by part, texts by their bytes, lent or not, and
-- tags of values as they are equal.
use Rattle.std.specs.Prelude.{Bool, true, false, ◌&&◌, bytes_eq}
use Rattle.std.specs.Bool.{beq}
use Rattle.std.specs.Ordering.{int_eq}
use Rattle.yaml_tree.specs.Tag.{tag_eq}
use Rattle.yaml_tree.specs.Tree.{Tree, null, boolean, number, string, sequence, mapping, tagged, Trees, no_trees, tree}
use Rattle.yaml_tree.specs.Tree.{Pairs, no_pairs, pair}
use Rattle.yaml_shape.specs.EqualData.{data_eq_by, items_eq_by, entries_eq_by}
use Rattle.yaml_shape.specs.PlainData.{PlainData, PlainItems, PlainEntries}

abbrev mutual
  -- values of one kind, with equal parts in one order
  pub same_tree : Tree → Tree → Bool
  same_tree null null = true
  same_tree (boolean a) (boolean b) = beq a b
  same_tree (number a) (number b) = int_eq a b
  same_tree (string a) (string b) = bytes_eq a b
  same_tree (sequence a) (sequence b) = same_trees a b
  same_tree (mapping a) (mapping b) = same_pairs a b
  same_tree (tagged s a) (tagged t b) = tag_eq s t && same_tree a b
  same_tree _ _ = false

  -- lists of values, value by value
  pub same_trees : Trees → Trees → Bool
  same_trees no_trees no_trees = true
  same_trees (tree a xs) (tree b ys) = same_tree a b && same_trees xs ys
  same_trees _ _ = false

  -- lists of pairs, pair by pair
  pub same_pairs : Pairs → Pairs → Bool
  same_pairs no_pairs no_pairs = true
  same_pairs (pair k v xs) (pair l w ys) = same_tree k l && (same_tree v w && same_pairs xs ys)
  same_pairs _ _ = false

-- data of one kind, with equal parts in one order
abbrev pub same_data : PlainData → PlainData → Bool
same_data = data_eq_by same_tree

-- lists of data, element by element
abbrev pub same_items : PlainItems → PlainItems → Bool
same_items = items_eq_by same_tree

-- lists of keys with values, pair by pair
abbrev pub same_entries : PlainEntries → PlainEntries → Bool
same_entries = entries_eq_by same_tree

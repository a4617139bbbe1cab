-- Equality of trees: part by part, and of mappings where their pairs match one to one in any order.
use Rattle.std.specs.Prelude.{Bool, true, false, ◌&&◌, Option, Some, None, option_map, if◌then◌else◌, bytes_eq}
use Rattle.std.specs.Ordering.{int_eq}
use Rattle.std.specs.Bool.{beq}
use Rattle.yaml_tree.specs.Tag.{tag_eq}
use Rattle.yaml_tree.specs.Tree.{Tree, null, boolean, number, string, sequence, mapping, tagged, Trees, no_trees, tree}
use Rattle.yaml_tree.specs.Tree.{Pairs, no_pairs, pair}

-- the pairs without the first one whose key passes the first test and whose value passes the second
abbrev pub take_out : (Tree → Bool) → (Tree → Bool) → Pairs → Option Pairs
take_out f g no_pairs = None
take_out f g (pair k v ps) = if f k && g v then Some ps else option_map (pair k v) (take_out f g ps)

-- there are pairs, and they pass
abbrev pub rest_passes : (Pairs → Bool) → Option Pairs → Bool
rest_passes f None = false
rest_passes f (Some ps) = f ps

abbrev mutual
  -- two values are equal: of one kind, with equal parts
  pub tree_eq : Tree → Tree → Bool
  tree_eq null null = true
  tree_eq (boolean a) (boolean b) = beq a b
  tree_eq (number a) (number b) = int_eq a b
  tree_eq (string a) (string b) = bytes_eq a b
  tree_eq (sequence a) (sequence b) = trees_eq a b
  tree_eq (mapping a) (mapping b) = pairs_eq a b
  tree_eq (tagged s a) (tagged t b) = tag_eq s t && tree_eq a b
  tree_eq _ _ = false

  -- two lists are equal, value by value
  pub trees_eq : Trees → Trees → Bool
  trees_eq no_trees no_trees = true
  trees_eq (tree a xs) (tree b ys) = tree_eq a b && trees_eq xs ys
  trees_eq _ _ = false

  -- each pair of the first list is matched by one pair of the second, and none of the second is left
  pub pairs_eq : Pairs → Pairs → Bool
  pairs_eq no_pairs no_pairs = true
  pairs_eq no_pairs (pair k v qs) = false
  pairs_eq (pair k v ps) qs = rest_passes (pairs_eq ps) (take_out (tree_eq k) (tree_eq v) qs)

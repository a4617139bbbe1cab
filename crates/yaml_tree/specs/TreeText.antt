-- The text of a value.
use Rattle.std.specs.Prelude.{ℕ, List, [], ◌∷◌, ◌++◌, codes, if◌then◌else◌}
use Rattle.std.specs.Fmt.{signed_decimal}
use Rattle.yaml_tree.specs.Quoted.{quoted}
use Rattle.yaml_tree.specs.Tree.{Tree, null, boolean, number, string, sequence, mapping, tagged}
use Rattle.yaml_tree.specs.Tree.{Trees, no_trees, tree, Pairs, no_pairs, pair}
use Rattle.yaml_tree.specs.Listed.{listed}

-- the text of a value, and the texts of the values of a sequence and the pairs of a mapping
abbrev mutual
  pub tree_text : Tree → List ℕ
  tree_text null = codes "null"
  tree_text (boolean b) = if b then codes "true" else codes "false"
  tree_text (number z) = signed_decimal z
  tree_text (string text) = quoted text
  tree_text (sequence ts) = codes "[" ++ (listed (tree_texts ts) ++ codes "]")
  tree_text (mapping ps) = codes "{" ++ (listed (pair_texts ps) ++ codes "}")
  tree_text (tagged tag t) = codes "!" ++ (tag ++ (codes " " ++ tree_text t))

  pub tree_texts : Trees → List (List ℕ)
  tree_texts no_trees = []
  tree_texts (tree t ts) = tree_text t ∷ tree_texts ts

  pub pair_texts : Pairs → List (List ℕ)
  pair_texts no_pairs = []
  pair_texts (pair k v ps) = (tree_text k ++ (codes ": " ++ tree_text v)) ∷ pair_texts ps

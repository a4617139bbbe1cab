-- The trees that values stand for: distinct keys in each mapping, tags that aren't empty, texts, and numbers in range.
use Rattle.std.specs.Prelude.{◌≡◌, ℕ, List, Bool, true, false, ◌&&◌, refl}
use Rattle.std.specs.Coded.{Coded, Coded-set, coded_bool, coded_ℕ, coded_list, coded×}
use Rattle.std.specs.Str.{is_utf8}
use base.Stored.{coded_sub}
use Rattle.yaml_tree.specs.Code.{tree_code, trees_code, pairs_code}
use Rattle.yaml_tree.specs.Integer.{is_number}
use Rattle.yaml_tree.specs.Mapping.{keys_distinct}
use Rattle.yaml_tree.specs.Tag.{is_tag}
use Rattle.yaml_tree.specs.Tree.{Tree, number, string, sequence, mapping, tagged, Trees, no_trees, tree}
use Rattle.yaml_tree.specs.Tree.{Pairs, no_pairs, pair}

abbrev mutual
  -- a value can be this tree
  pub is_value : Tree → Bool
  is_value (number z) = is_number z
  is_value (string s) = is_utf8 s
  is_value (sequence ts) = are_values ts
  is_value (mapping ps) = keys_distinct ps && are_pairs ps
  is_value (tagged s t) = is_tag s && is_value t
  is_value _ = true

  -- values can be these trees
  pub are_values : Trees → Bool
  are_values no_trees = true
  are_values (tree t ts) = is_value t && are_values ts

  -- keys and values can be these pairs
  pub are_pairs : Pairs → Bool
  are_pairs no_pairs = true
  are_pairs (pair k v ps) = is_value k && (is_value v && are_pairs ps)

-- what a value is seen as
abbrev pub ValueTree : Type 0
ValueTree = (t : Tree) × (is_value t ≡ true)

-- what a sequence is seen as: its values in order
abbrev pub ValueTrees : Type 0
ValueTrees = (ts : Trees) × (are_values ts ≡ true)

-- what a mapping is seen as: its pairs in order
abbrev pub ValuePairs : Type 0
ValuePairs = (ps : Pairs) × ((keys_distinct ps && are_pairs ps) ≡ true)

-- what a tag is seen as: its text
abbrev pub TagText : Type 0
TagText = (s : List ℕ) × (is_tag s ≡ true)

-- what a tagged value is seen as: its tag, and the value under it
abbrev pub TaggedTree : Type 0
TaggedTree = TagText × ValueTree

-- a sequence's values
abbrev pub values_of : ValueTrees → Trees
values_of s = s.0

-- a mapping's pairs
abbrev pub pairs_of : ValuePairs → Pairs
pairs_of m = m.0

-- the text of a tagged value's tag
abbrev pub tag_of : TaggedTree → List ℕ
tag_of t = t.0.0

-- the value under a tagged value's tag
abbrev pub content_under_tag : TaggedTree → Tree
content_under_tag t = t.1.0

-- a tagged value as a tree
abbrev pub tree_of_tagged : TaggedTree → Tree
tree_of_tagged t = tagged (tag_of t) (content_under_tag t)

-- a tree is told from others by itself
abbrev pub value_tree_code : Coded ValueTree
value_tree_code = coded_sub tree_code (λ t. is_value t ≡ true) (λ t. Coded-set coded_bool (is_value t) true)

-- so are the trees of a sequence
abbrev pub value_trees_code : Coded ValueTrees
value_trees_code = coded_sub trees_code (λ ts. are_values ts ≡ true) (λ ts. Coded-set coded_bool (are_values ts) true)

-- so are the pairs of a mapping
abbrev pub value_pairs_code : Coded ValuePairs
value_pairs_code =
    coded_sub pairs_code (λ ps. (keys_distinct ps && are_pairs ps) ≡ true)
    (λ ps. Coded-set coded_bool (keys_distinct ps && are_pairs ps) true)

-- so is the text of a tag
abbrev pub tag_text_code : Coded TagText
tag_text_code =
    coded_sub (coded_list coded_ℕ) (λ s. is_tag s ≡ true) (λ s. Coded-set coded_bool (is_tag s) true)

-- so are the two parts of a tagged value
abbrev pub tagged_tree_code : Coded TaggedTree
tagged_tree_code = coded× tag_text_code value_tree_code

-- these pairs, or none where two keys are equal (`distinct` says which of the two holds)
abbrev pub pairs_by : (distinct : Bool) (ps : Pairs) → keys_distinct ps ≡ distinct → are_pairs ps ≡ true → ValuePairs
pairs_by true ps d h = (ps, λ i. d i && h i)
pairs_by false ps d h = (no_pairs, refl)

-- these pairs, whose keys are distinct in each mapping
abbrev pub value_pairs : (ps : Pairs) → are_pairs ps ≡ true → ValuePairs
value_pairs ps h = pairs_by (keys_distinct ps) ps refl h

-- the pairs of a mapping, where the test of their keys has passed
pairs_of-pairs_by : (distinct : Bool) (ps : Pairs) (d : keys_distinct ps ≡ distinct) (h : are_pairs ps ≡ true)
    → distinct ≡ true → pairs_of (pairs_by distinct ps d h) ≡ ps
pairs_of-pairs_by true ps d h e = refl
pairs_of-pairs_by false ps d h e = absurd (cc)

-- the pairs of a mapping made of pairs with distinct keys are these
pub pairs_of-value_pairs : (ps : Pairs) (h : are_pairs ps ≡ true) → keys_distinct ps ≡ true
    → pairs_of (value_pairs ps h) ≡ ps
pairs_of-value_pairs ps h d = pairs_of-pairs_by (keys_distinct ps) ps refl h d

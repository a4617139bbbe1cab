-- What is equal in one order is equal.
use Rattle.std.specs.Prelude.{Bool, true, false, ◌&&◌, not}
use Rattle.std.proofs.Common.{◌≡◌, refl, sym, ◌∙◌}
use Rattle.yaml_tree.specs.Equal.{tree_eq, trees_eq, pairs_eq}
use Rattle.yaml_tree.specs.EqualLaws.{tree_eq-symm, tree_eq-congr}
use Rattle.yaml_tree.specs.Mapping.{has_key, keys_distinct}
use Rattle.yaml_tree.specs.Tag.{tag_eq}
use Rattle.yaml_tree.specs.Tree.{Tree, null, boolean, number, string, sequence, mapping, tagged, Trees, no_trees, tree}
use Rattle.yaml_tree.specs.Tree.{Pairs, no_pairs, pair}
use Rattle.yaml_shape.proofs.EqualDataLaws.{data_eq-stronger}
use Rattle.yaml_shape.specs.EqualData.{data_eq}
use Rattle.yaml_shape.specs.PlainData.{PlainData}
use Rattle.yaml_round.specs.SameOrder.{same_tree, same_trees, same_pairs, same_data}

-- both tests pass
pub both : (a b : Bool) → a ≡ true → b ≡ true → (a && b) ≡ true
both a b p q = rw (p, q) refl

pub first : (a b : Bool) → (a && b) ≡ true → a ≡ true
first true b h = refl
first false b h = absurd cc

pub second : (a b : Bool) → (a && b) ≡ true → b ≡ true
second true b h = h
second false b h = absurd cc

mutual
  -- values
  pub tree_equal : (a b : Tree) → same_tree a b ≡ true → tree_eq a b ≡ true
  tree_equal null null h = refl
  tree_equal (boolean a) (boolean b) h = h
  tree_equal (number a) (number b) h = h
  tree_equal (string a) (string b) h = h
  tree_equal (sequence a) (sequence b) h = trees_equal a b h
  tree_equal (mapping a) (mapping b) h = pairs_equal a b h
  tree_equal (tagged s a) (tagged t b) h =
      both (tag_eq s t) (tree_eq a b) (first (tag_eq s t) (same_tree a b) h)
      (tree_equal a b (second (tag_eq s t) (same_tree a b) h))
  tree_equal _ _ h = absurd cc

  trees_equal : (xs ys : Trees) → same_trees xs ys ≡ true → trees_eq xs ys ≡ true
  trees_equal no_trees no_trees h = refl
  trees_equal (tree a xs) (tree b ys) h =
      both (tree_eq a b) (trees_eq xs ys) (tree_equal a b (first (same_tree a b) (same_trees xs ys) h))
      (trees_equal xs ys (second (same_tree a b) (same_trees xs ys) h))
  trees_equal _ _ h = absurd cc

  -- the first pair is matched by the first
  pub pairs_equal : (xs ys : Pairs) → same_pairs xs ys ≡ true → pairs_eq xs ys ≡ true
  pairs_equal no_pairs no_pairs h = refl
  pairs_equal (pair k v xs) (pair l w ys) h =
      let keys = tree_equal k l (first (same_tree k l) (same_tree v w && same_pairs xs ys) h) in
      let more = second (same_tree k l) (same_tree v w && same_pairs xs ys) h in
      let values = tree_equal v w (first (same_tree v w) (same_pairs xs ys) more) in
      rw (keys, values) (pairs_equal xs ys (second (same_tree v w) (same_pairs xs ys) more))
  pairs_equal _ _ h = absurd cc

-- what is equal is equal to the same
same_test : (k l a b : Tree) → tree_eq k l ≡ true → tree_eq a b ≡ true → tree_eq l b ≡ tree_eq k a
same_test k l a b e f =
    sym (tree_eq-congr k l e b) ∙ tree_eq-symm k b ∙ sym (tree_eq-congr a b f k) ∙ tree_eq-symm a k

-- so equal pairs have the same keys
same_key : (k l : Tree) (xs ys : Pairs) → tree_eq k l ≡ true → same_pairs xs ys ≡ true → has_key l ys ≡ has_key k xs
same_key k l no_pairs no_pairs e h = refl
same_key k l (pair a v xs) (pair b w ys) e h =
    let keys = tree_equal a b (first (same_tree a b) (same_tree v w && same_pairs xs ys) h) in
    let more = second (same_tree a b) (same_tree v w && same_pairs xs ys) h in
    rw (same_test k l a b e keys, same_key k l xs ys e (second (same_tree v w) (same_pairs xs ys) more)) refl
same_key k l _ _ e h = absurd cc

-- and distinct ones where the others are distinct
pub distinct_again : (xs ys : Pairs) → same_pairs xs ys ≡ true → keys_distinct xs ≡ true → keys_distinct ys ≡ true
distinct_again no_pairs no_pairs h d = refl
distinct_again (pair k v xs) (pair l w ys) h d =
    let keys = tree_equal k l (first (same_tree k l) (same_tree v w && same_pairs xs ys) h) in
    let more = second (same_tree k l) (same_tree v w && same_pairs xs ys) h in
    let rest = second (same_tree v w) (same_pairs xs ys) more in
    both (not (has_key l ys)) (keys_distinct ys)
    (rw (same_key k l xs ys keys rest) (first (not (has_key k xs)) (keys_distinct xs) d))
    (distinct_again xs ys rest (second (not (has_key k xs)) (keys_distinct xs) d))
distinct_again _ _ h d = absurd cc

-- data
pub data_equal : (a b : PlainData) → same_data a b ≡ true → data_eq a b ≡ true
data_equal = data_eq-stronger same_tree tree_eq tree_equal

-- A code for trees, by which each is told from all others.
use Rattle.std.specs.Prelude.{◌≡◌, ℕ, suc, zero, ℤ, pos, negsuc, List, [], ◌∷◌, Bool, true, false, refl}
use Rattle.std.proofs.Common.{sym, ◌∙◌, ap}
use base.Stored.{Gv, gnil, gnum, gcons, Coded, num}
use Rattle.yaml_tree.specs.Tree.{Tree, null, boolean, number, string, sequence, mapping, tagged, Trees, no_trees, tree}
use Rattle.yaml_tree.specs.Tree.{Pairs, no_pairs, pair}

-- a boolean as a number
abbrev bit : Bool → ℕ
bit true = 1
bit false = 0

-- a number as a boolean
abbrev unbit : ℕ → Bool
unbit zero = false
unbit (suc n) = true

-- a boolean is read back
unbit-bit : (b : Bool) → unbit (bit b) ≡ b
unbit-bit true = refl
unbit-bit false = refl

-- the code of an integer
abbrev code_integer : ℤ → Gv
code_integer (pos n) = gcons (gnum 0) (gnum n)
code_integer (negsuc n) = gcons (gnum 1) (gnum n)

-- the integer of a sign and a number
abbrev with_sign : ℕ → ℕ → ℤ
with_sign zero n = pos n
with_sign (suc k) n = negsuc n

-- the code of a text
abbrev code_text : List ℕ → Gv
code_text [] = gnil
code_text (n ∷ ns) = gcons (gnum n) (code_text ns)

-- the text of a code
abbrev read_text : Gv → List ℕ
read_text gnil = []
read_text (gnum n) = []
read_text (gcons a b) = num a ∷ read_text b

-- a text is read back
read_text-code_text : (ns : List ℕ) → read_text (code_text ns) ≡ ns
read_text-code_text [] = refl
read_text-code_text (n ∷ ns) = ap (λ r. n ∷ r) (read_text-code_text ns)

abbrev mutual
  -- the code of a tree: its kind, then its parts
  pub code_tree : Tree → Gv
  code_tree null = gnil
  code_tree (boolean b) = gcons (gnum 0) (gnum (bit b))
  code_tree (number z) = gcons (gnum 1) (code_integer z)
  code_tree (string s) = gcons (gnum 2) (code_text s)
  code_tree (sequence ts) = gcons (gnum 3) (code_trees ts)
  code_tree (mapping ps) = gcons (gnum 4) (code_pairs ps)
  code_tree (tagged s t) = gcons (gnum 5) (gcons (code_text s) (code_tree t))

  -- the code of a list of trees
  pub code_trees : Trees → Gv
  code_trees no_trees = gnil
  code_trees (tree t ts) = gcons (code_tree t) (code_trees ts)

  -- the code of a list of pairs
  pub code_pairs : Pairs → Gv
  code_pairs no_pairs = gnil
  code_pairs (pair k v ps) = gcons (code_tree k) (gcons (code_tree v) (code_pairs ps))

-- the first part of a code
abbrev head_of : Gv → Gv
head_of gnil = gnil
head_of (gnum n) = gnil
head_of (gcons a b) = a

-- the other parts of a code
abbrev tail_of : Gv → Gv
tail_of gnil = gnil
tail_of (gnum n) = gnil
tail_of (gcons a b) = b

-- the integer of a code
abbrev read_integer : Gv → ℤ
read_integer g = with_sign (num (head_of g)) (num (tail_of g))

-- an integer is read back
read_integer-code_integer : (z : ℤ) → read_integer (code_integer z) ≡ z
read_integer-code_integer (pos n) = refl
read_integer-code_integer (negsuc n) = refl

-- what a code reads as: a tree, a list of trees and a list of pairs, and the same of its parts
pub record Read : Type 0 where
  pub as_tree : Tree
  pub as_trees : Trees
  pub as_pairs : Pairs
  pub first : Tree
  pub second : Tree
  pub rest : Pairs

-- the tree of a kind and of the code of its parts, which is read already
abbrev tree_of_kind : ℕ → Gv → Read → Tree
tree_of_kind zero g r = boolean (unbit (num g))
tree_of_kind (suc zero) g r = number (read_integer g)
tree_of_kind (suc (suc zero)) g r = string (read_text g)
tree_of_kind (suc (suc (suc zero))) g r = sequence r.as_trees
tree_of_kind (suc (suc (suc (suc zero)))) g r = mapping r.as_pairs
tree_of_kind (suc (suc (suc (suc (suc n))))) g r = tagged (read_text (head_of g)) r.second

-- what a code without parts reads as
abbrev read_nothing : Read
read_nothing = record {
  as_tree = null;
  as_trees = no_trees;
  as_pairs = no_pairs;
  first = null;
  second = null;
  rest = no_pairs;
}

-- what a code reads as
abbrev read : Gv → Read
read gnil = read_nothing
read (gnum n) = read_nothing
read (gcons a b) = record {
  as_tree = tree_of_kind (num a) b (read b);
  as_trees = tree (read a).as_tree (read b).as_trees;
  as_pairs = pair (read a).as_tree (read b).first (read b).rest;
  first = (read a).as_tree;
  second = (read b).as_tree;
  rest = (read b).as_pairs;
}

mutual
  -- a tree is read back
  read-code_tree : (t : Tree) → (read (code_tree t)).as_tree ≡ t
  read-code_tree null = refl
  read-code_tree (boolean b) = ap boolean (unbit-bit b)
  read-code_tree (number z) = ap number (read_integer-code_integer z)
  read-code_tree (string s) = ap string (read_text-code_text s)
  read-code_tree (sequence ts) = ap sequence (read-code_trees ts)
  read-code_tree (mapping ps) = ap mapping (read-code_pairs ps)
  read-code_tree (tagged s t) = λ i. tagged (read_text-code_text s i) (read-code_tree t i)

  -- so is a list of trees
  read-code_trees : (ts : Trees) → (read (code_trees ts)).as_trees ≡ ts
  read-code_trees no_trees = refl
  read-code_trees (tree t ts) = λ i. tree (read-code_tree t i) (read-code_trees ts i)

  -- so is a list of pairs
  read-code_pairs : (ps : Pairs) → (read (code_pairs ps)).as_pairs ≡ ps
  read-code_pairs no_pairs = refl
  read-code_pairs (pair k v ps) = λ i. pair (read-code_tree k i) (read-code_tree v i) (read-code_pairs ps i)

-- trees with one code are one tree
pub code_tree-injective : (x y : Tree) → code_tree x ≡ code_tree y → x ≡ y
code_tree-injective x y p = sym (read-code_tree x) ∙ (ap (λ g. (read g).as_tree) p ∙ read-code_tree y)

-- so are lists of trees
pub code_trees-injective : (x y : Trees) → code_trees x ≡ code_trees y → x ≡ y
code_trees-injective x y p = sym (read-code_trees x) ∙ (ap (λ g. (read g).as_trees) p ∙ read-code_trees y)

-- so are lists of pairs
pub code_pairs-injective : (x y : Pairs) → code_pairs x ≡ code_pairs y → x ≡ y
code_pairs-injective x y p = sym (read-code_pairs x) ∙ (ap (λ g. (read g).as_pairs) p ∙ read-code_pairs y)

-- trees have a code
abbrev pub tree_code : Coded Tree
tree_code = record { code = code_tree; inj = code_tree-injective }

-- so do lists of trees
abbrev pub trees_code : Coded Trees
trees_code = record { code = code_trees; inj = code_trees-injective }

-- so do lists of pairs
abbrev pub pairs_code : Coded Pairs
pairs_code = record { code = code_pairs; inj = code_pairs-injective }

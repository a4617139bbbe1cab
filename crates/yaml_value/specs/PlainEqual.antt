-- Equality of plain values: part by part, and of mappings in whatever order their pairs stand.
use Rattle.std.specs.Prelude.{Bool, true, false, ◌&&◌, ◌||◌, ◌==◌, Option, Some, None, if◌then◌else◌}
use Rattle.std.specs.Prelude.{ℕ, List, bytes_eq, is_nan}
use Rattle.std.specs.Bool.{beq}
use Rattle.std.specs.Float.Ieee.{Float, eq}
use Rattle.std.specs.Ordering.{int_eq}
use Rattle.yaml_value.specs.PlainValue.{PlainValue, null, boolean, integer, float, text, sequence, mapping, tagged}
use Rattle.yaml_value.specs.PlainValue.{PlainItems, no_items, item, PlainPairs, no_pairs, pair, pair_count}

-- the same float: what is no number is the same as itself, and 0.0 as -0.0
abbrev pub same_float : Float → Float → Bool
same_float x y = if is_nan x then is_nan y else eq x y

-- the value of the first pair whose key passes
abbrev pub value_where : (PlainValue → Bool) → PlainPairs → Option PlainValue
value_where passes no_pairs = None
value_where passes (pair k v ps) = if passes k then Some v else value_where passes ps

-- the key of some pair passes, and its value does
abbrev pub pair_passes : (key : PlainValue → Bool) → (value : PlainValue → Bool) → PlainPairs → Bool
pair_passes key value no_pairs = false
pair_passes key value (pair l w ps) = (key l && value w) || pair_passes key value ps

abbrev mutual
  -- two values are equal: of one kind, with equal parts
  pub plain_eq : PlainValue → PlainValue → Bool
  plain_eq null null = true
  plain_eq (boolean a) (boolean b) = beq a b
  plain_eq (integer a) (integer b) = int_eq a b
  plain_eq (float a) (float b) = same_float a b
  plain_eq (text a) (text b) = bytes_eq a b
  plain_eq (sequence a) (sequence b) = items_eq a b
  plain_eq (mapping a) (mapping b) = (pair_count a == pair_count b) && has_all_pairs a b
  plain_eq (tagged s a) (tagged t b) = bytes_eq s t && plain_eq a b
  plain_eq _ _ = false

  -- two lists are equal, value by value
  pub items_eq : PlainItems → PlainItems → Bool
  items_eq no_items no_items = true
  items_eq (item a xs) (item b ys) = plain_eq a b && items_eq xs ys
  items_eq _ _ = false

  -- each pair of the first list is equal to one of the second
  pub has_all_pairs : PlainPairs → PlainPairs → Bool
  has_all_pairs no_pairs qs = true
  has_all_pairs (pair k v ps) qs = pair_passes (plain_eq k) (plain_eq v) qs && has_all_pairs ps qs

-- two mappings are equal: as many pairs, and each of the first in the second
abbrev pub pairs_eq : PlainPairs → PlainPairs → Bool
pairs_eq a b = (pair_count a == pair_count b) && has_all_pairs a b

-- two keys with their values are equal
abbrev pub entry_eq : PlainValue × PlainValue → PlainValue × PlainValue → Bool
entry_eq p q = plain_eq p.0 q.0 && plain_eq p.1 q.1

-- two texts of tags with what is under them are equal
abbrev pub tagged_eq : List ℕ × PlainValue → List ℕ × PlainValue → Bool
tagged_eq s t = bytes_eq s.0 t.0 && plain_eq s.1 t.1

-- some pair is equal to this one
abbrev pub has_pair : PlainValue × PlainValue → PlainPairs → Bool
has_pair p ps = pair_passes (plain_eq p.0) (plain_eq p.1) ps

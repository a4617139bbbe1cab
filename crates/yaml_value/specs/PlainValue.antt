-- A value without where it lies in memory.
use Rattle.std.specs.Prelude.{ℕ, ◌+◌, ℤ, List, Bool}
use Rattle.std.specs.Float.Ieee.{Float}

mutual
  -- a value: a leaf, a list of values, a list of pairs, or a value under a tag
  pub data PlainValue : Type 0 where
    null : PlainValue
    boolean : Bool → PlainValue
    integer : ℤ → PlainValue
    float : Float → PlainValue
    text : List ℕ → PlainValue
    sequence : PlainItems → PlainValue
    mapping : PlainPairs → PlainValue
    tagged : (tag : List ℕ) → PlainValue → PlainValue

  -- a list of values
  pub data PlainItems : Type 0 where
    no_items : PlainItems
    item : PlainValue → PlainItems → PlainItems

  -- a list of pairs
  pub data PlainPairs : Type 0 where
    no_pairs : PlainPairs
    pair : (key : PlainValue) → (value : PlainValue) → PlainPairs → PlainPairs

-- how many pairs a list has
abbrev pub pair_count : PlainPairs → ℕ
pair_count no_pairs = 0
pair_count (pair k v ps) = pair_count ps + 1

-- a list with one more value at its end
abbrev pub with_item : PlainItems → PlainValue → PlainItems
with_item no_items v = item v no_items
with_item (item u vs) v = item u (with_item vs v)

-- a list with one more pair at its end
abbrev pub with_last : PlainPairs → (key : PlainValue) → (value : PlainValue) → PlainPairs
with_last no_pairs k v = pair k v no_pairs
with_last (pair l w ps) k v = pair l w (with_last ps k v)

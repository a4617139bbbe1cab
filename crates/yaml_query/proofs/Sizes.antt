-- How large values are, for what goes over their parts.
use Rattle.std.proofs.Common.{◌≡◌, ℕ, zero, suc, ◌+◌, ◌<◌, List, [], ◌∷◌, ap, arith, get_or, length}
use Rattle.yaml_value.specs.PlainValue.{PlainValue, sequence, mapping, tagged, PlainItems, no_items, item}
use Rattle.yaml_value.specs.PlainValue.{PlainPairs, no_pairs, pair}
use Rattle.yaml_value.specs.View.{entry_pairs, plain, plain_entry, plain_items}
use Rattle.yaml_value.specs.declared.mapping.Entry.{Entry}
use Rattle.yaml_value.specs.declared.value.Value.{Value}

abbrev mutual
  pub size : PlainValue → ℕ
  size (sequence vs) = items_size vs + 2
  size (mapping ps) = pairs_size ps + 2
  size (tagged t v) = size v + 1
  size _ = 0

  pub items_size : PlainItems → ℕ
  items_size no_items = 0
  items_size (item v vs) = size v + items_size vs + 2

  pub pairs_size : PlainPairs → ℕ
  pairs_size no_pairs = 0
  pairs_size (pair k v ps) = size v + pairs_size ps + 2

pub item_smaller : (xs : List Value) (i : ℕ) (d : Value) → i < length xs → d ≡ get_or xs i d
    → size (plain d) < items_size (plain_items xs)
item_smaller [] i d lt is = absurd (omega (arith, lt))
item_smaller (x ∷ xs) zero d lt is = let e = ap (λ y. size (plain y)) is in omega (arith, e)
item_smaller (x ∷ xs) (suc i) d lt is = omega (arith, item_smaller xs i d (omega (arith, lt)) is)

pub pair_smaller : (es : List Entry) (i : ℕ) (d : Entry) → i < length es → d ≡ get_or es i d
    → size (plain_entry d).1 < pairs_size (entry_pairs es)
pair_smaller [] i d lt is = absurd (omega (arith, lt))
pair_smaller (x ∷ es) zero d lt is = let e = ap (λ y. size (plain_entry y).1) is in omega (arith, e)
pair_smaller (x ∷ es) (suc i) d lt is = omega (arith, pair_smaller es i d (omega (arith, lt)) is)

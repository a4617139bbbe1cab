-- How large plain values are.
use Rattle.std.specs.Prelude.{ℕ, ◌+◌}
use Rattle.yaml_value.specs.PlainValue.{PlainValue, sequence, mapping, tagged}
use Rattle.yaml_value.specs.PlainValue.{PlainItems, no_items, item, PlainPairs, no_pairs, pair}

abbrev mutual
  -- how large a value is: more than each value inside it
  pub value_size : PlainValue → ℕ
  value_size (sequence vs) = items_size vs + 1
  value_size (mapping ps) = pairs_size ps + 1
  value_size (tagged t v) = value_size v + 1
  value_size _ = 1

  -- how large a list of values is
  pub items_size : PlainItems → ℕ
  items_size no_items = 0
  items_size (item v vs) = value_size v + items_size vs + 1

  -- how large a list of pairs is
  pub pairs_size : PlainPairs → ℕ
  pairs_size no_pairs = 0
  pairs_size (pair k v ps) = value_size k + value_size v + pairs_size ps + 1

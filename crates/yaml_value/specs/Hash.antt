-- The hash of a key: equal keys have one hash.
use Rattle.std.specs.Prelude.{ℕ, ◌+◌, ◌%◌, ◌^◌, List, [], ◌∷◌, true, false, ℤ, unsigned_abs}
use Rattle.std.specs.List.{fold}
use Rattle.std.specs.Float.{binary64, float_key}
use Rattle.std.specs.Float.Ieee.{Float}
use Rattle.std.specs.Hash.FoldHasher.{initial, write, finish}
use Rattle.std.specs.Hash as fed
use Rattle.yaml_value.specs.PlainValue.{PlainValue, null, boolean, integer, float, text, sequence, mapping, tagged}
use Rattle.yaml_value.specs.PlainValue.{PlainItems, no_items, item, PlainPairs, no_pairs, pair}

-- the hash of what is written, one after another
abbrev pub written : List (List ℕ) → ℕ
written ws = finish (fold write initial ws)

-- the hash of a text
abbrev pub text_hash : List ℕ → ℕ
text_hash s = written (s ∷ [])

-- the hash of an integer: that of its distance from 0
abbrev pub integer_hash : ℤ → ℕ
integer_hash z = written (fed.u128 (unsigned_abs z))

-- the hash of a float: that of its bits, with one number for all that are no number and one for both zeros
abbrev pub float_hash : Float → ℕ
float_hash x = written (fed.u64 (float_key binary64 x))

-- the hash of a tag's text and of the hash of what is under the tag
abbrev pub tagged_hash : List ℕ → ℕ → ℕ
tagged_hash tag content = written (tag ∷ fed.u64 content)

-- the hash of a pair, of the hashes of its key and its value
abbrev pub pair_hash : ℕ → ℕ → ℕ
pair_hash key value = written (fed.le_bytes 8 key ∷ fed.u64 value)

abbrev mutual
  -- the hash of a value
  pub hash_of : PlainValue → ℕ
  hash_of null = 0
  hash_of (boolean false) = 1
  hash_of (boolean true) = 2
  hash_of (integer z) = integer_hash z
  hash_of (float x) = float_hash x
  hash_of (text s) = text_hash s
  hash_of (sequence vs) = written (item_writes vs)
  hash_of (mapping ps) = sum_with 4 ps
  hash_of (tagged t v) = tagged_hash t (hash_of v)

  -- the hashes of values, as they are written
  pub item_writes : PlainItems → List (List ℕ)
  item_writes no_items = []
  item_writes (item v vs) = fed.le_bytes 8 (hash_of v) ∷ item_writes vs

  -- a number with the hashes of pairs added, in 64 bits, so that their order does not matter
  pub sum_with : ℕ → PlainPairs → ℕ
  sum_with n no_pairs = n
  sum_with n (pair k v ps) = sum_with ((n + pair_hash (hash_of k) (hash_of v)) % 2 ^ 64) ps

-- What is found in a plain value: at a key, or under tags.
use Rattle.std.specs.Prelude.{◌≡◌, ℕ, suc, zero, pos, Bool, true, false, if◌then◌else◌}
use Rattle.std.specs.Prelude.{List, Option, Some, None, option_and_then, option_map}
use Rattle.yaml_value.specs.PlainValue.{PlainValue, integer, text, sequence, mapping, tagged}
use Rattle.yaml_value.specs.PlainValue.{PlainItems, no_items, item, PlainPairs, no_pairs, pair, with_last}
use Rattle.yaml_value.specs.PlainEqual.{plain_eq, value_where}

-- the value under all its tags
abbrev pub untagged : PlainValue → PlainValue
untagged (tagged t v) = untagged v
untagged v = v

-- the values of the sequence that it is
abbrev pub items_in : PlainValue → Option PlainItems
items_in (sequence vs) = Some vs
items_in (tagged t v) = items_in v
items_in _ = None

-- the pairs of the mapping that it is
abbrev pub pairs_in : PlainValue → Option PlainPairs
pairs_in (mapping ps) = Some ps
pairs_in (tagged t v) = pairs_in v
pairs_in _ = None

-- the text of the tag that it has, and what is under it
abbrev pub tagged_in : PlainValue → Option (List ℕ × PlainValue)
tagged_in (tagged t v) = Some (t, v)
tagged_in _ = None

-- the value of the first pair with this key
abbrev pub value_at : PlainValue → PlainPairs → Option PlainValue
value_at k ps = value_where (plain_eq k) ps

-- the value at the key that is this text, where it is a mapping
abbrev pub get : List ℕ → PlainValue → Option PlainValue
get key v = option_and_then (value_at (text key)) (pairs_in v)

-- the value in a place of a list
abbrev pub item_in_place : ℕ → PlainItems → Option PlainValue
item_in_place place no_items = None
item_in_place zero (item v vs) = Some v
item_in_place (suc place) (item v vs) = item_in_place place vs

-- the element in a place of a sequence, or the value at the key that is this number
abbrev pub at : ℕ → PlainValue → Option PlainValue
at place (sequence vs) = item_in_place place vs
at place (mapping ps) = value_at (integer (pos place)) ps
at place (tagged t v) = at place v
at place _ = None

-- the place of the first pair whose key passes
abbrev pub place_where : (PlainValue → Bool) → PlainPairs → Option ℕ
place_where passes no_pairs = None
place_where passes (pair k v ps) = if passes k then Some 0 else option_map suc (place_where passes ps)

-- the pair in a place has this key
abbrev pub is_key_at : PlainValue → ℕ → PlainPairs → Bool
is_key_at k place no_pairs = false
is_key_at k zero (pair l w ps) = plain_eq k l
is_key_at k (suc place) (pair l w ps) = is_key_at k place ps

-- the value of the pair in a place
abbrev pub value_in_place : ℕ → PlainPairs → Option PlainValue
value_in_place place no_pairs = None
value_in_place zero (pair k v ps) = Some v
value_in_place (suc place) (pair k v ps) = value_in_place place ps

-- the pairs without the first one with this key
abbrev pub without_key : PlainValue → PlainPairs → PlainPairs
without_key k no_pairs = no_pairs
without_key k (pair l w ps) = if plain_eq k l then ps else pair l w (without_key k ps)

-- so few pairs that a key is looked for one by one
abbrev pub few : ℕ
few = 16

-- the pairs without the one in a place
abbrev pub without_place : ℕ → PlainPairs → PlainPairs
without_place place no_pairs = no_pairs
without_place zero (pair k v ps) = ps
without_place (suc place) (pair k v ps) = pair k v (without_place place ps)

-- the pairs, with another value in the pair in a place
abbrev pub with_value : ℕ → PlainValue → PlainPairs → PlainPairs
with_value place v no_pairs = no_pairs
with_value zero v (pair l w ps) = pair l v ps
with_value (suc place) v (pair l w ps) = pair l w (with_value place v ps)

-- the pairs without the one in a place, if there is such a place
abbrev pub without_found : Option ℕ → PlainPairs → PlainPairs
without_found None ps = ps
without_found (Some place) ps = without_place place ps

-- a pair with this key, in this place, has this value
abbrev pub HasPairIn : ℕ → (key : PlainValue) → PlainPairs → PlainValue → Type 0
HasPairIn place k ps v = (is_key_at k place ps ≡ true) × (value_in_place place ps ≡ Some v)

-- it is the value of a pair with this key
abbrev pub IsValueAt : (key : PlainValue) → PlainPairs → PlainValue → Type 0
IsValueAt k ps v = (place : ℕ) × HasPairIn place k ps v

-- a pair with this key is taken out, and the others stay in their order; or none is, and there is no answer
abbrev pub IsTakenOut : (key : PlainValue) → (old new : PlainPairs) → (answer : Option PlainValue) → Type 0
IsTakenOut k old new None = new ≡ old
IsTakenOut k old new (Some w) = (place : ℕ) × HasPairIn place k old w × (new ≡ without_place place old)

-- a pair with this key has another value, and the one before is the answer; or a new pair stands last
abbrev pub IsPut : (key value : PlainValue) → (old new : PlainPairs) → (answer : Option PlainValue) → Type 0
IsPut k v old new None = new ≡ with_last old k v
IsPut k v old new (Some w) = (place : ℕ) × HasPairIn place k old w × (new ≡ with_value place v old)

-- the pairs with this value at this key: in the place of the first equal key, which stays, or else last
abbrev pub with_pair : (key value : PlainValue) → PlainPairs → PlainPairs
with_pair k v no_pairs = pair k v no_pairs
with_pair k v (pair l w ps) = if plain_eq k l then pair l v ps else pair l w (with_pair k v ps)

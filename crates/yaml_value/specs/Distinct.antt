-- Plain values in whose mappings no key stands twice: what sequences, mappings and tagged values are seen as.
use Rattle.std.specs.Prelude.{◌≡◌, ℕ, List, Bool, true, false, ◌&&◌, ◌||◌, not, refl}
use Rattle.std.specs.Coded.{Coded, Coded-set, coded_bool, coded_ℕ, coded_list, coded×}
use base.Stored.{coded_sub}
use Rattle.yaml_value.specs.Code.{value_code, items_code, pairs_code}
use Rattle.yaml_value.specs.PlainEqual.{plain_eq}
use Rattle.yaml_value.specs.PlainValue.{PlainValue, sequence, mapping, tagged}
use Rattle.yaml_value.specs.PlainValue.{PlainItems, no_items, item, PlainPairs, no_pairs, pair}

-- some pair has a key equal to this one
abbrev pub has_key : PlainValue → PlainPairs → Bool
has_key k no_pairs = false
has_key k (pair l w ps) = plain_eq k l || has_key k ps

-- no two keys are equal
abbrev pub keys_distinct : PlainPairs → Bool
keys_distinct no_pairs = true
keys_distinct (pair k v ps) = not (has_key k ps) && keys_distinct ps

abbrev mutual
  -- no mapping in a value has two equal keys
  pub is_distinct : PlainValue → Bool
  is_distinct (sequence vs) = are_distinct vs
  is_distinct (mapping ps) = keys_distinct ps && are_pairs_distinct ps
  is_distinct (tagged t v) = is_distinct v
  is_distinct _ = true

  -- so it is of each of these values
  pub are_distinct : PlainItems → Bool
  are_distinct no_items = true
  are_distinct (item v vs) = is_distinct v && are_distinct vs

  -- and of each key and value of these pairs
  pub are_pairs_distinct : PlainPairs → Bool
  are_pairs_distinct no_pairs = true
  are_pairs_distinct (pair k v ps) = is_distinct k && (is_distinct v && are_pairs_distinct ps)

-- what a sequence is seen as: its values in order
abbrev pub DistinctItems : Type 0
DistinctItems = (vs : PlainItems) × (are_distinct vs ≡ true)

-- what a mapping is seen as: its pairs in order
abbrev pub DistinctPairs : Type 0
DistinctPairs = (ps : PlainPairs) × ((keys_distinct ps && are_pairs_distinct ps) ≡ true)

-- what a tagged value is seen as: the text of its tag, and the value under it
abbrev pub DistinctTagged : Type 0
DistinctTagged = List ℕ × ((v : PlainValue) × (is_distinct v ≡ true))

-- a sequence's values
abbrev pub plain_sequence : DistinctItems → PlainItems
plain_sequence s = s.0

-- a mapping's pairs
abbrev pub plain_pairs : DistinctPairs → PlainPairs
plain_pairs m = m.0

-- the text of a tag with the plain value under it
abbrev pub plain_tagged : DistinctTagged → List ℕ × PlainValue
plain_tagged t = (t.0, t.1.0)

-- the values of a sequence are told from others by themselves
abbrev pub distinct_items_code : Coded DistinctItems
distinct_items_code =
    coded_sub items_code (λ vs. are_distinct vs ≡ true) (λ vs. Coded-set coded_bool (are_distinct vs) true)

-- so are the pairs of a mapping
abbrev pub distinct_pairs_code : Coded DistinctPairs
distinct_pairs_code =
    coded_sub pairs_code (λ ps. (keys_distinct ps && are_pairs_distinct ps) ≡ true)
    (λ ps. Coded-set coded_bool (keys_distinct ps && are_pairs_distinct ps) true)

-- and the parts of a tagged value
abbrev pub distinct_tagged_code : Coded DistinctTagged
distinct_tagged_code =
    coded× (coded_list coded_ℕ)
    (coded_sub value_code (λ v. is_distinct v ≡ true) (λ v. Coded-set coded_bool (is_distinct v) true))

-- these pairs, or none where two keys are equal (`distinct` says which of the two holds)
abbrev pub pairs_by : (distinct : Bool) (ps : PlainPairs) → keys_distinct ps ≡ distinct → are_pairs_distinct ps ≡ true
    → DistinctPairs
pairs_by true ps d h = (ps, λ i. d i && h i)
pairs_by false ps d h = (no_pairs, refl)

-- these pairs, in whose keys and values no key stands twice
abbrev pub distinct_pairs : (ps : PlainPairs) → are_pairs_distinct ps ≡ true → DistinctPairs
distinct_pairs ps h = pairs_by (keys_distinct ps) ps refl h

-- the pairs of a mapping, where the test of their keys has passed
pairs_of-pairs_by : (distinct : Bool) (ps : PlainPairs) (d : keys_distinct ps ≡ distinct)
    (h : are_pairs_distinct ps ≡ true) → distinct ≡ true → plain_pairs (pairs_by distinct ps d h) ≡ ps
pairs_of-pairs_by true ps d h e = refl
pairs_of-pairs_by false ps d h e = absurd (cc)

-- the pairs of a mapping made of pairs with distinct keys are these
pub plain_pairs-distinct_pairs : (ps : PlainPairs) (h : are_pairs_distinct ps ≡ true) → keys_distinct ps ≡ true
    → plain_pairs (distinct_pairs ps h) ≡ ps
plain_pairs-distinct_pairs ps h d = pairs_of-pairs_by (keys_distinct ps) ps refl h d

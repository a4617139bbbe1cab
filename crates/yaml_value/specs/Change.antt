-- What putting a value into a value and taking one out leaves.
use Rattle.std.specs.Prelude.{◌≡◌, Option, Some, None}
use Rattle.yaml_value.specs.Find.{IsPut, IsTakenOut}
use Rattle.yaml_value.specs.PlainValue.{PlainValue, null, mapping, tagged, PlainPairs, no_pairs, pair}

-- A value is put at a key of the mapping that a value is, under the same tags; what is null becomes a mapping of it, and
-- what is neither stays, and gives it back.
abbrev pub Inserts : (key value : PlainValue) → (old new : PlainValue) → (answer : Option PlainValue) → Type 0
Inserts k v null new answer = (new ≡ mapping (pair k v no_pairs)) × (answer ≡ None)
Inserts k v (mapping ps) new answer = (qs : PlainPairs) × IsPut k v ps qs answer × (new ≡ mapping qs)
Inserts k v (tagged t u) new answer = (w : PlainValue) × Inserts k v u w answer × (new ≡ tagged t w)
Inserts k v old new answer = (new ≡ old) × (answer ≡ Some v)

-- The value at a key is taken out of the mapping that a value is, under the same tags, and answered.
abbrev pub Removes : (key : PlainValue) → (old new : PlainValue) → (answer : Option PlainValue) → Type 0
Removes k (mapping ps) new answer = (qs : PlainPairs) × IsTakenOut k ps qs answer × (new ≡ mapping qs)
Removes k (tagged t u) new answer = (w : PlainValue) × Removes k u w answer × (new ≡ tagged t w)
Removes k old new answer = (new ≡ old) × (answer ≡ None)

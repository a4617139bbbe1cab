-- Values for which no JSON stands.
use Rattle.std.specs.Prelude.{ℕ, ◌+◌, ◌≡◌, List, [], ◌∷◌, Bool, true, false, ◌&&◌}
use Rattle.std.specs.Bool.{MatchBool}
use Rattle.std.specs.Float.{float_is_finite}
use Rattle.json.specs.Json.{Json}
use Rattle.yaml_query.specs.JsonOf.{IsJsonOf, IsNameOf}
use Rattle.yaml_query.specs.Steps.{PlainStep, index, key, plain_steps}
use Rattle.yaml_query.specs.declared.fault.JsonFault.{JsonFault}
use Rattle.yaml_query.specs.declared.fault.JsonFault.TheVariants as fault
use Rattle.yaml_query.specs.declared.fault.Reason.{Reason}
use Rattle.yaml_query.specs.declared.fault.Reason.TheVariants as reason
use Rattle.yaml_value.specs.PlainValue.{PlainValue, float, sequence, mapping, tagged}
use Rattle.yaml_value.specs.PlainValue.{PlainItems, no_items, item, PlainPairs, no_pairs, pair}

-- it is no collection
abbrev pub is_scalar : PlainValue → Bool
is_scalar (sequence vs) = false
is_scalar (mapping ps) = false
is_scalar (tagged t v) = is_scalar v
is_scalar _ = true

abbrev mutual
  -- each float in it is finite, and each key is a scalar
  pub has_json : PlainValue → Bool
  has_json (float x) = float_is_finite x
  has_json (sequence vs) = items_have_json vs
  has_json (mapping ps) = pairs_have_json ps
  has_json (tagged t v) = has_json v
  has_json _ = true

  pub items_have_json : PlainItems → Bool
  items_have_json no_items = true
  items_have_json (item v vs) = has_json v && items_have_json vs

  pub pairs_have_json : PlainPairs → Bool
  pairs_have_json no_pairs = true
  pairs_have_json (pair k v ps) = is_scalar k && (has_json v && pairs_have_json ps)

-- a step, and behind it a way of which this holds
pub record IsBehind (step : PlainStep) (Holds : List PlainStep → Type 0) (way : List PlainStep) : Type 0 where
  pub rest : List PlainStep
  pub holds : Holds rest
  pub joined : way ≡ step ∷ rest

-- the same of the step to the value at a key
pub record IsBehindKey (k : PlainValue) (Holds : List PlainStep → Type 0) (way : List PlainStep) : Type 0 where
  pub name : List ℕ
  pub named : IsNameOf k name
  pub behind : IsBehind (key name) Holds way

abbrev mutual
  -- The first part of a value for which no JSON stands, by the way to it, and why: it is no finite float, or a mapping
  -- that has a collection as a key.
  pub IsWithout : PlainValue → Reason → (way : List PlainStep) → Type 0
  IsWithout (float x) why way = (float_is_finite x ≡ false) × (why ≡ reason.NotFinite) × (way ≡ [])
  IsWithout (sequence vs) why way = IsWithoutFrom 0 vs why way
  IsWithout (mapping ps) why way = IsPairWithout ps why way
  IsWithout (tagged t v) why way = IsWithout v why way
  IsWithout _ why way = ⊥

  -- the same of values, the first of which stands in this place
  pub IsWithoutFrom : ℕ → PlainItems → Reason → (way : List PlainStep) → Type 0
  IsWithoutFrom place no_items why way = ⊥
  IsWithoutFrom place (item v vs) why way =
      MatchBool (has_json v) (IsWithoutFrom (place + 1) vs why way) (IsBehind (index place) (IsWithout v why) way)

  pub IsPairWithout : PlainPairs → Reason → (way : List PlainStep) → Type 0
  IsPairWithout no_pairs why way = ⊥
  IsPairWithout (pair k v ps) why way = MatchBool (is_scalar k)
      (MatchBool (has_json v) (IsPairWithout ps why way) (IsBehindKey k (IsWithout v why) way))
      ((why ≡ reason.CollectionKey) × (way ≡ []))

-- What a fault tells: where there is no JSON in a value, and why. Want of memory tells nothing.
abbrev pub IsFaultIn : PlainValue → JsonFault → Type 0
IsFaultIn v fault.Memory = Unit {0}
IsFaultIn v (fault.At why path) = IsWithout v why (plain_steps path.steps.items)

-- No JSON stands for a value of which a fault is told, unless memory was wanting.
abbrev pub HasNone : PlainValue → JsonFault → Type 0
HasNone v fault.Memory = Unit {0}
HasNone v (fault.At why path) = (j : Json) → IsJsonOf v j → ⊥

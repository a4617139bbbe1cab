-- What is written of values in places and at names, and the faults of JSON there.
use Rattle.std.specs.Prelude.{◌≡◌, ◌∷◌, ◌++◌, ℕ, List, Option, None, Some, false}
use Rattle.json.specs.Json.{Json}
use Rattle.json.specs.Token.{key as key_token, Token}
use Rattle.json.specs.Tree.{HasNumbers, json_tokens}
use Rattle.yaml_query.specs.FaultSteps.{IsHere}
use Rattle.yaml_query.specs.JsonOf.{IsJsonOf, IsNameOf}
use Rattle.yaml_query.specs.NoJson.{IsBehind, IsPairWithout, is_scalar, IsWithout, IsWithoutFrom}
use Rattle.yaml_query.specs.Steps.{index, key, plain_steps}
use Rattle.yaml_query.specs.declared.fault.JsonFault.{JsonFault}
use Rattle.yaml_query.specs.declared.fault.JsonFault.TheVariants as fault
use Rattle.yaml_query.specs.declared.fault.Reason.TheVariants as reason
use Rattle.yaml_value.specs.PlainValue.{PlainItems, PlainPairs, PlainValue}

abbrev pub IsFaultAmong : PlainItems → JsonFault → Type 0
IsFaultAmong vs fault.Memory = Unit {0}
IsFaultAmong vs (fault.At why path) = IsWithoutFrom 0 vs why (plain_steps path.steps.items)

abbrev pub IsFaultInPlace : ℕ → PlainValue → JsonFault → Type 0
IsFaultInPlace place v fault.Memory = Unit {0}
IsFaultInPlace place v (fault.At why path) = IsBehind (index place) (IsWithout v why) (plain_steps path.steps.items)

abbrev pub IsFaultBehind : (name : List ℕ) → PlainValue → JsonFault → Type 0
IsFaultBehind s v fault.Memory = Unit {0}
IsFaultBehind s v (fault.At why path) = IsBehind (key s) (IsWithout v why) (plain_steps path.steps.items)

abbrev pub IsFaultOfPairs : PlainPairs → JsonFault → Type 0
IsFaultOfPairs ps fault.Memory = Unit {0}
IsFaultOfPairs ps (fault.At why path) = IsPairWithout ps why (plain_steps path.steps.items)

-- a name and the JSON of a value are written
pub record WritesMember (s : List ℕ) (v : PlainValue) (old new : List Token) : Type 0 where
  pub json : Json
  pub of_value : IsJsonOf v json
  pub numbers : HasNumbers json
  pub more : new ≡ old ++ (key_token s ∷ json_tokens json)

-- the name of a key, or that it has none
abbrev pub IsNameOrNone : PlainValue → Option (List ℕ) → Type 0
IsNameOrNone k None = is_scalar k ≡ false
IsNameOrNone k (Some s) = IsNameOf k s

-- what is written of a value at a name, if there is one
abbrev pub WritesPair : Option (List ℕ) → PlainValue → (old new : List Token) → Type 0
WritesPair None v old new = ⊥
WritesPair (Some s) v old new = WritesMember s v old new

abbrev pub IsFaultAtName : Option (List ℕ) → PlainValue → JsonFault → Type 0
IsFaultAtName None v f = IsHere reason.CollectionKey f
IsFaultAtName (Some s) v f = IsFaultBehind s v f

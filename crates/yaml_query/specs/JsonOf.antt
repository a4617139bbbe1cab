-- The JSON that stands for a value, as a tree of the crate `json`.
use Rattle.std.specs.Prelude.{ℕ, ◌≡◌, List, codes, Bool, true, false, Some}
use Rattle.std.specs.Float.{binary64, float_is_finite}
use Rattle.std.specs.Float.Ieee.{Float}
use Rattle.std.specs.Fmt.{signed_decimal}
use Rattle.fast_float.specs.Parse.{parse_float}
use Rattle.ryu.specs.Plain.{IsPlusNumber}
use Rattle.json.specs.Json as json
use Rattle.yaml_float.specs.Float.{float_of}
use Rattle.yaml_value.specs.PlainValue.{PlainValue, null, boolean, integer, float, text, sequence, mapping, tagged}
use Rattle.yaml_value.specs.PlainValue.{PlainItems, no_items, item, PlainPairs, no_pairs, pair}

-- A decimal that is read as a finite float: with a point, and an exponent where it has more than 16 digits before
-- the point or
-- more than 4 zeros behind it, as `1.5` and `1e+30`.
abbrev pub IsNumberOf : Float → List ℕ → Type 0
IsNumberOf x s = (float_is_finite x ≡ true) × IsPlusNumber 16 4 s × (parse_float binary64 s ≡ Some x)

abbrev pub boolean_text : Bool → List ℕ
boolean_text true = codes "true"
boolean_text false = codes "false"

-- The name that stands for a key: the text that it is, or the text of another scalar. A collection has none.
abbrev pub IsNameOf : PlainValue → List ℕ → Type 0
IsNameOf null s = s ≡ codes "null"
IsNameOf (boolean b) s = s ≡ boolean_text b
IsNameOf (integer z) s = s ≡ signed_decimal z
IsNameOf (float x) s = float_of binary64 s ≡ Some x
IsNameOf (text t) s = s ≡ t
IsNameOf (sequence vs) s = ⊥
IsNameOf (mapping ps) s = ⊥
IsNameOf (tagged t k) s = IsNameOf k s

abbrev mutual
  -- The JSON of a value: null, a boolean, a number, a string, and arrays and objects in the same order. Tags are
  -- let go.
  pub IsJsonOf : PlainValue → json.Json → Type 0
  IsJsonOf null j = j ≡ json.null
  IsJsonOf (boolean b) j = j ≡ json.boolean b
  IsJsonOf (integer z) j = j ≡ json.number (signed_decimal z)
  IsJsonOf (float x) j = (s : List ℕ) × IsNumberOf x s × (j ≡ json.number s)
  IsJsonOf (text t) j = j ≡ json.string t
  IsJsonOf (sequence vs) j = (js : json.Items) × AreItemsOf vs js × (j ≡ json.array js)
  IsJsonOf (mapping ps) j = (ms : json.Members) × AreMembersOf ps ms × (j ≡ json.object ms)
  IsJsonOf (tagged t v) j = IsJsonOf v j

  pub AreItemsOf : PlainItems → json.Items → Type 0
  AreItemsOf no_items js = js ≡ json.no_items
  AreItemsOf (item v vs) js = (k : json.Json) × (ks : json.Items) × IsJsonOf v k × AreItemsOf vs ks
      × (js ≡ json.item k ks)

  pub AreMembersOf : PlainPairs → json.Members → Type 0
  AreMembersOf no_pairs ms = ms ≡ json.no_members
  AreMembersOf (pair k v ps) ms = (s : List ℕ) × (j : json.Json) × (ns : json.Members) × IsNameOf k s
      × IsJsonOf v j × AreMembersOf ps ns × (ms ≡ json.member s j ns)

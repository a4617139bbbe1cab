-- No JSON stands for a value in which a fault is.
use Rattle.std.proofs.Common.{◌≡◌, ℕ, ◌+◌, Bool, true, false, ◌&&◌, List, refl, MatchBool}
use Rattle.json.specs.Json as json
use Rattle.yaml_query.specs.JsonOf.{AreItemsOf, AreMembersOf, IsJsonOf, IsNameOf}
use Rattle.yaml_query.specs.NoJson.{HasNone, has_json, IsFaultIn, IsPairWithout, IsWithout, IsWithoutFrom, is_scalar}
use Rattle.yaml_query.specs.NoJson.{items_have_json, pairs_have_json}
use Rattle.yaml_query.specs.Steps.{PlainStep}
use Rattle.yaml_query.specs.declared.fault.JsonFault.{JsonFault}
use Rattle.yaml_query.specs.declared.fault.JsonFault.TheVariants as fault
use Rattle.yaml_query.specs.declared.fault.Reason.{Reason}
use Rattle.yaml_value.specs.PlainValue.{PlainValue, null, boolean, integer, float, text, sequence, mapping, tagged}
use Rattle.yaml_value.specs.PlainValue.{PlainItems, no_items, item, PlainPairs, no_pairs, pair}

pub scalar_named : (k : PlainValue) (s : List ℕ) → IsNameOf k s → is_scalar k ≡ true
scalar_named null s h = refl
scalar_named (boolean b) s h = refl
scalar_named (integer z) s h = refl
scalar_named (float x) s h = refl
scalar_named (text t) s h = refl
scalar_named (sequence vs) s h = absurd h
scalar_named (mapping ps) s h = absurd h
scalar_named (tagged t k) s h = scalar_named k s h

mutual
  pub has_one : (v : PlainValue) (j : json.Json) → IsJsonOf v j → has_json v ≡ true
  has_one null j h = refl
  has_one (boolean b) j h = refl
  has_one (integer z) j h = refl
  has_one (float x) j h = h.1.0
  has_one (text t) j h = refl
  has_one (sequence vs) j h = have_items vs h.0 h.1
  has_one (mapping ps) j h = have_members ps h.0 h.1
  has_one (tagged t v) j h = has_one v j h

  have_items : (vs : PlainItems) (js : json.Items) → AreItemsOf vs js → items_have_json vs ≡ true
  have_items no_items js h = refl
  have_items (item v vs) js h = let a = has_one v h.0 h.2 in let b = have_items vs h.1 h.3 in λ i. a i && b i

  have_members : (ps : PlainPairs) (ms : json.Members) → AreMembersOf ps ms → pairs_have_json ps ≡ true
  have_members no_pairs ms h = refl
  have_members (pair k v ps) ms h =
      let a = scalar_named k h.0 h.3 in let b = has_one v h.1 h.4 in let e = have_members ps h.2 h.5 in
      λ i. a i && (b i && e i)

unless : (b c : Bool) (A B : Type 0) → MatchBool b A B → (A → c ≡ false) → b && c ≡ false
unless true c A B h f = f h
unless false c A B h f = refl

mutual
  pub without : (v : PlainValue) (why : Reason) (way : List PlainStep) → IsWithout v why way → has_json v ≡ false
  without null why way h = absurd h
  without (boolean b) why way h = absurd h
  without (integer z) why way h = absurd h
  without (float x) why way h = h.0
  without (text t) why way h = absurd h
  without (sequence vs) why way h = items_without 0 vs why way h
  without (mapping ps) why way h = pairs_without ps why way h
  without (tagged t v) why way h = without v why way h

  items_without : (place : ℕ) (vs : PlainItems) (why : Reason) (way : List PlainStep)
      → IsWithoutFrom place vs why way → items_have_json vs ≡ false
  items_without place no_items why way h = absurd h
  items_without place (item v vs) why way h =
      unless (has_json v) (items_have_json vs) _ _ h (λ a. items_without (place + 1) vs why way a)

  pairs_without : (ps : PlainPairs) (why : Reason) (way : List PlainStep)
      → IsPairWithout ps why way → pairs_have_json ps ≡ false
  pairs_without no_pairs why way h = absurd h
  pairs_without (pair k v ps) why way h =
      unless (is_scalar k) (has_json v && pairs_have_json ps) _ _ h
      (λ a. unless (has_json v) (pairs_have_json ps) _ _ a (λ b. pairs_without ps why way b))

differ : {b : Bool} → b ≡ true → b ≡ false → ⊥
differ p q = cc

pub has_none : (v : PlainValue) (f : JsonFault) → IsFaultIn v f → HasNone v f
has_none v fault.Memory h = tt
has_none v (fault.At why path) h = λ j is. differ (has_one v j is) (without v why _ h)

-- What is written of values and pairs, a turn after the other.
use Rattle.std.proofs.Common.{◌≡◌, ℕ, ◌+◌, Bool, true, false, List, [], ◌∷◌, ◌++◌, ap, ◌∙◌, refl, sym, subst}
use Rattle.std.proofs.Common.{MatchBool, ℤ, Option, None, Some, Result, Ok, Err, OnOk}
use Rattle.std.specs.Float.Ieee.{Float}
use Rattle.std.specs.Fmt.{signed_decimal}
use Rattle.std.proofs.lemmas.List.{append_assoc}
use Rattle.json.specs.Json.{Json, Items, no_items as no_json_items, item as json_item, Members, no_members, member}
use Rattle.json.specs.Json as json
use Rattle.json.specs.Print.{IsNumber}
use Rattle.json.specs.Token.{Token, begin_array, begin_object, end_array, end_object, key as key_token}
use Rattle.json.specs.Token as token
use Rattle.json.specs.Tree.{ItemsHaveNumbers, items_tokens, json_tokens, MembersHaveNumbers, members_tokens}
use Rattle.yaml_query.specs.FaultSteps.{IsHere}
use Rattle.yaml_query.specs.JsonOf.{AreItemsOf, AreMembersOf, IsNameOf, IsNumberOf}
use Rattle.yaml_query.specs.NoJson.{has_json, IsBehind, IsBehindKey, IsPairWithout, IsWithout, IsWithoutFrom, is_scalar}
use Rattle.yaml_query.specs.Out.{WritesItems, WritesJson, WritesMembers}
use Rattle.yaml_query.specs.PairFaults.{IsFaultAmong, IsFaultAtName, IsFaultInPlace, IsFaultOfPairs}
use Rattle.yaml_query.specs.PairFaults.{IsNameOrNone, WritesMember, WritesPair}
use Rattle.yaml_query.specs.Steps.{PlainStep, index, key, plain_steps}
use Rattle.yaml_query.specs.declared.fault.JsonFault.{JsonFault}
use Rattle.yaml_query.specs.declared.fault.JsonFault.TheVariants as fault
use Rattle.yaml_query.specs.declared.fault.Reason.{Reason}
use Rattle.yaml_query.specs.declared.fault.Reason.TheVariants as reason
use Rattle.yaml_query.proofs.JsonLaws.{has_one, scalar_named, without}
use Rattle.yaml_value.specs.PlainValue.{PlainValue, null, boolean, integer, float, text, sequence, mapping}
use Rattle.yaml_value.specs.PlainValue.{PlainItems, no_items, item, PlainPairs, no_pairs, pair}

-- what writes the rest writes all, and a fault of the rest is one of all
pub record IsLeft (vs rest : PlainItems) (place : ℕ) (first now : List Token) : Type 0 where
  pub writes : (js : Items) → AreItemsOf rest js → ItemsHaveNumbers js → (ks : Items) × AreItemsOf vs ks
      × ItemsHaveNumbers ks × (first ++ items_tokens ks ≡ now ++ items_tokens js)
  pub faults : (why : Reason) (way : List PlainStep) → IsWithoutFrom place rest why way → IsWithoutFrom 0 vs why way

pub all_left : (vs : PlainItems) (ts : List Token) → IsLeft vs vs 0 ts ts
all_left vs ts = record { writes = λ js are numbers. (js, are, numbers, refl); faults = λ why way h. h }

pub one_written : (vs rest : PlainItems) (v : PlainValue) (place : ℕ) (first old new : List Token)
    → IsLeft vs (item v rest) place first old → WritesJson v old new → IsLeft vs rest (place + 1) first new
one_written vs rest v place first old new h w = record {
  writes = λ js are numbers.
      let r = h.writes (json_item w.json js) (w.json, js, w.of_value, are, refl) (w.numbers, numbers) in (
        r.0,
        r.1,
        r.2,
        r.3 ∙ (sym (append_assoc old (json_tokens w.json) (items_tokens js))
            ∙ ap (λ ts. ts ++ items_tokens js) (sym w.more)),
      );
  faults = λ why way f. h.faults why way
      (subst (λ b. MatchBool b (IsWithoutFrom (place + 1) rest why way) (IsBehind (index place) (IsWithout v why) way))
      (sym (has_one v w.json w.of_value)) f);
}

pub items_written : (vs : PlainItems) (place : ℕ) (first old new : List Token) → IsLeft vs no_items place first old
    → new ≡ old ++ end_array ∷ [] → WritesItems vs first new
items_written vs place first old new h e =
    let r = h.writes no_json_items refl tt in
    record { items = r.0; of_values = r.1; numbers = r.2; more = e ∙ sym r.3 }

pub fault_left : (vs rest : PlainItems) (v : PlainValue) (place : ℕ) (first now : List Token) (why : Reason)
    (way : List PlainStep) → IsLeft vs (item v rest) place first now → has_json v ≡ false
    → IsBehind (index place) (IsWithout v why) way → IsWithoutFrom 0 vs why way
fault_left vs rest v place first now why way h off f =
    h.faults why way
    (subst (λ b. MatchBool b (IsWithoutFrom (place + 1) rest why way) (IsBehind (index place) (IsWithout v why) way))
    (sym off) f)

-- the same of pairs
pub record ArePairsLeft (ps rest : PlainPairs) (first now : List Token) : Type 0 where
  pub writes : (ms : Members) → AreMembersOf rest ms → MembersHaveNumbers ms → (ns : Members) × AreMembersOf ps ns
      × MembersHaveNumbers ns × (first ++ members_tokens ns ≡ now ++ members_tokens ms)
  pub faults : (why : Reason) (way : List PlainStep) → IsPairWithout rest why way → IsPairWithout ps why way

pub all_pairs_left : (ps : PlainPairs) (ts : List Token) → ArePairsLeft ps ps ts ts
all_pairs_left ps ts = record { writes = λ ms are numbers. (ms, are, numbers, refl); faults = λ why way h. h }

at_pair : (k v : PlainValue) (rest : PlainPairs) (why : Reason) (way : List PlainStep) (b c : Bool)
    → is_scalar k ≡ b → has_json v ≡ c
    → MatchBool b (MatchBool c (IsPairWithout rest why way) (IsBehindKey k (IsWithout v why) way))
    ((why ≡ reason.CollectionKey) × (way ≡ []))
    → IsPairWithout (pair k v rest) why way
at_pair k v rest why way b c p q h =
    subst (λ x. MatchBool x (MatchBool (has_json v) (IsPairWithout rest why way) (IsBehindKey k (IsWithout v why) way))
    ((why ≡ reason.CollectionKey) × (way ≡ []))) (sym p)
    (subst (λ y. MatchBool b (MatchBool y (IsPairWithout rest why way) (IsBehindKey k (IsWithout v why) way))
    ((why ≡ reason.CollectionKey) × (way ≡ []))) (sym q) h)

pub pair_written : (ps rest : PlainPairs) (k v : PlainValue) (s : List ℕ) (first old new : List Token)
    → ArePairsLeft ps (pair k v rest) first old → IsNameOf k s → WritesMember s v old new
    → ArePairsLeft ps rest first new
pair_written ps rest k v s first old new h named w = record {
  writes = λ ms are numbers.
      let r = h.writes (member s w.json ms) (s, w.json, ms, named, w.of_value, are, refl) (w.numbers, numbers) in (
        r.0,
        r.1,
        r.2,
        r.3 ∙ (sym (append_assoc old (key_token s ∷ json_tokens w.json) (members_tokens ms))
            ∙ ap (λ ts. ts ++ members_tokens ms) (sym w.more)),
      );
  faults = λ why way f. h.faults why way
      (at_pair k v rest why way true true (scalar_named k s named) (has_one v w.json w.of_value) f);
}

pub pairs_written : (ps : PlainPairs) (first old new : List Token) → ArePairsLeft ps no_pairs first old
    → new ≡ old ++ end_object ∷ [] → WritesMembers ps first new
pairs_written ps first old new h e =
    let r = h.writes no_members refl tt in
    record { members = r.0; of_pairs = r.1; numbers = r.2; more = e ∙ sym r.3 }

pub key_left : (ps rest : PlainPairs) (k v : PlainValue) (first now : List Token) (way : List PlainStep)
    → ArePairsLeft ps (pair k v rest) first now → is_scalar k ≡ false → way ≡ []
    → IsPairWithout ps reason.CollectionKey way
key_left ps rest k v first now way h off e =
    h.faults reason.CollectionKey way
    (at_pair k v rest reason.CollectionKey way false (has_json v) off refl (refl, e))

pub pair_left : (ps rest : PlainPairs) (k v : PlainValue) (s : List ℕ) (first now : List Token) (why : Reason)
    (way : List PlainStep) → ArePairsLeft ps (pair k v rest) first now → IsNameOf k s → has_json v ≡ false
    → IsBehind (key s) (IsWithout v why) way → IsPairWithout ps why way
pair_left ps rest k v s first now why way h named off f =
    h.faults why way
    (at_pair k v rest why way true false (scalar_named k s named) off (record { name = s; named = named; behind = f }))

-- ---- what one token is, and what stands between brackets
pub on_ok : {T E P Q : Type 0} (r : Result T E) → (P → Q) → OnOk r P → OnOk r Q
on_ok (Ok x) f h = f h
on_ok (Err e) f h = tt

pub writes_null : (old new : List Token) → new ≡ old ++ token.null ∷ [] → WritesJson null old new
writes_null old new e = record { json = json.null; of_value = refl; numbers = tt; more = e }

pub writes_boolean : (b : Bool) (old new : List Token) → new ≡ old ++ token.boolean b ∷ []
    → WritesJson (boolean b) old new
writes_boolean b old new e = record { json = json.boolean b; of_value = refl; numbers = tt; more = e }

pub writes_text : (s : List ℕ) (old new : List Token) → new ≡ old ++ token.string s ∷ [] → WritesJson (text s) old new
writes_text s old new e = record { json = json.string s; of_value = refl; numbers = tt; more = e }

pub writes_integer : (z : ℤ) (s : List ℕ) (old new : List Token) → s ≡ signed_decimal z → IsNumber s
    → new ≡ old ++ token.number s ∷ [] → WritesJson (integer z) old new
writes_integer z s old new e h f = record { json = json.number s; of_value = ap json.number e; numbers = h; more = f }

pub writes_float : (x : Float) (s : List ℕ) (old new : List Token) → IsNumberOf x s → IsNumber s
    → new ≡ old ++ token.number s ∷ [] → WritesJson (float x) old new
writes_float x s old new e h f = record { json = json.number s; of_value = (s, e, refl); numbers = h; more = f }

pub writes_array : (vs : PlainItems) (old mid new : List Token) → mid ≡ old ++ begin_array ∷ []
    → WritesItems vs mid new → WritesJson (sequence vs) old new
writes_array vs old mid new e w = record {
  json = json.array w.items;
  of_value = (w.items, w.of_values, refl);
  numbers = w.numbers;
  more = w.more ∙ (ap (λ ts. ts ++ items_tokens w.items) e ∙ append_assoc old (begin_array ∷ []) (items_tokens
      w.items));
}

pub writes_object : (ps : PlainPairs) (old mid new : List Token) → mid ≡ old ++ begin_object ∷ []
    → WritesMembers ps mid new → WritesJson (mapping ps) old new
writes_object ps old mid new e w = record {
  json = json.object w.members;
  of_value = (w.members, w.of_pairs, refl);
  numbers = w.numbers;
  more = w.more
      ∙ (ap (λ ts. ts ++ members_tokens w.members) e ∙ append_assoc old (begin_object ∷ []) (members_tokens w.members));
}

-- ---- faults among values and pairs
pub fault_among : (vs rest : PlainItems) (v : PlainValue) (place : ℕ) (first now : List Token) (f : JsonFault)
    → IsLeft vs (item v rest) place first now → IsFaultInPlace place v f → IsFaultAmong vs f
fault_among vs rest v place first now fault.Memory h g = tt
fault_among vs rest v place first now (fault.At why path) h g =
    fault_left vs rest v place first now why (plain_steps path.steps.items) h (without v why g.rest g.holds) g

pub pair_done : (ps rest : PlainPairs) (k v : PlainValue) (name : Option (List ℕ)) (first old new : List Token)
    → ArePairsLeft ps (pair k v rest) first old → IsNameOrNone k name → WritesPair name v old new
    → ArePairsLeft ps rest first new
pair_done ps rest k v None first old new h named w = absurd w
pair_done ps rest k v (Some s) first old new h named w = pair_written ps rest k v s first old new h named w

pub fault_at_key : (ps rest : PlainPairs) (k v : PlainValue) (first now : List Token) (f : JsonFault)
    → ArePairsLeft ps (pair k v rest) first now → is_scalar k ≡ false → IsHere reason.CollectionKey f
    → IsFaultOfPairs ps f
fault_at_key ps rest k v first now fault.Memory h off g = absurd g
fault_at_key ps rest k v first now (fault.At why path) h off g =
    subst (λ r. IsPairWithout ps r (plain_steps path.steps.items)) (sym g.0) (key_left ps rest k v first now _ h off
    g.1)

pub fault_of_pair : (ps rest : PlainPairs) (k v : PlainValue) (name : Option (List ℕ)) (first now : List Token)
    (f : JsonFault) → ArePairsLeft ps (pair k v rest) first now → IsNameOrNone k name → IsFaultAtName name v f
    → IsFaultOfPairs ps f
fault_of_pair ps rest k v None first now f h named g = fault_at_key ps rest k v first now f h named g
fault_of_pair ps rest k v (Some s) first now fault.Memory h named g = tt
fault_of_pair ps rest k v (Some s) first now (fault.At why path) h named g =
    pair_left ps rest k v s first now why _ h named (without v why g.rest g.holds) g

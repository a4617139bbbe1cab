-- What lists of values and of entries are seen as: with one more at the end, at a place, and with an entry changed.
use Rattle.std.specs.Prelude.{◌≡◌, ℕ, suc, zero, ◌+◌, ◌<◌, ◌≤◌, Bool, true, false, if◌then◌else◌, refl}
use Rattle.std.specs.List.{remove}
use Rattle.std.specs.Prelude.{List, [], ◌∷◌, ◌++◌, length, set, Option, Some, None, IfSome}
use Rattle.std.specs.Prelude.{option_map, option_and_then}
use Rattle.std.proofs.Common.{ap, arith, sym, ◌∙◌, get_or, take}
use Rattle.std.proofs.lemmas.List.{take_more}
use Rattle.yaml_value.specs.Find.{item_in_place, IsPut, IsTakenOut, IsValueAt, with_pair, with_value}
use Rattle.yaml_value.specs.Find.{place_where, value_in_place, without_found, without_key, without_place}
use Rattle.yaml_value.specs.PlainEqual.{plain_eq, value_where}
use Rattle.yaml_value.specs.PlainValue.{PlainValue, item, PlainPairs, no_pairs, pair, pair_count}
use Rattle.yaml_value.specs.PlainValue.{with_item, with_last}
use Rattle.yaml_value.specs.Distinct.{DistinctItems, DistinctPairs, distinct_pairs, keys_distinct}
use Rattle.yaml_value.specs.Distinct.{plain_pairs, plain_pairs-distinct_pairs, plain_sequence}
use Rattle.yaml_value.specs.View.{are_distinct-plain_items, are_pairs_distinct-entry_pairs}
use Rattle.yaml_value.specs.View.{entry_pairs, plain, plain_entry, plain_items}
use Rattle.yaml_value.specs.declared.mapping.Entry.{Entry}
use Rattle.yaml_value.specs.declared.value.Value.{Value}

-- ---- one more at the end
plain_items-push : (vs : List Value) (v : Value) → plain_items (vs ++ v ∷ []) ≡ with_item (plain_items vs) (plain v)
plain_items-push [] v = refl
plain_items-push (x ∷ vs) v = ap (item (plain x)) (plain_items-push vs v)

-- copies of the first values, with a copy of the next one
pub items-more : (copies vs : List Value) (i : ℕ) (v w : Value) → plain_items copies ≡ plain_items (take i vs)
    → i < length vs → w ≡ get_or vs i w → plain v ≡ plain w
    → plain_items (copies ++ v ∷ []) ≡ plain_items (take (i + 1) vs)
items-more copies vs i v w e lt is f =
    plain_items-push copies v
    ∙ ((λ j. with_item (e j) (f j))
    ∙ (sym (plain_items-push (take i vs) w)
    ∙ ap plain_items (ap (λ x. take i vs ++ x ∷ []) is ∙ sym (take_more vs i w lt))))

pub entry_pairs-push : (es : List Entry) (e : Entry)
    → entry_pairs (es ++ e ∷ []) ≡ with_last (entry_pairs es) (plain_entry e).0 (plain_entry e).1
entry_pairs-push [] e = refl
entry_pairs-push (x ∷ es) e = ap (pair (plain_entry x).0 (plain_entry x).1) (entry_pairs-push es e)

-- ---- counts and places
pub item_in_place-at : (vs : List Value) (i : ℕ) (v : Value) → i < length vs → v ≡ get_or vs i v
    → item_in_place i (plain_items vs) ≡ Some (plain v)
item_in_place-at [] i v lt is = absurd (omega (arith, lt))
item_in_place-at (x ∷ vs) zero v lt is = ap (λ y. Some (plain y)) (sym is)
item_in_place-at (x ∷ vs) (suc i) v lt is = item_in_place-at vs i v (omega (arith, lt)) is

pub item_in_place-beyond : (vs : List Value) (i : ℕ) → length vs ≤ i → item_in_place i (plain_items vs) ≡ None
item_in_place-beyond [] i le = refl
item_in_place-beyond (x ∷ vs) zero le = absurd (omega (arith, le))
item_in_place-beyond (x ∷ vs) (suc i) le = item_in_place-beyond vs i (omega (arith, le))

pub pair_count-entries : (es : List Entry) → pair_count (entry_pairs es) ≡ length es
pair_count-entries [] = refl
pair_count-entries (e ∷ es) = omega (arith, pair_count-entries es)

-- the value of the entry in a place
pub value_in_place-at : (es : List Entry) (i : ℕ) (e : Entry) → i < length es → e ≡ get_or es i e
    → value_in_place i (entry_pairs es) ≡ Some (plain_entry e).1
value_in_place-at [] i e lt is = absurd (omega (arith, lt))
value_in_place-at (x ∷ es) zero e lt is = ap (λ y. Some (plain_entry y).1) (sym is)
value_in_place-at (x ∷ es) (suc i) e lt is = value_in_place-at es i e (omega (arith, lt)) is

pub value_in_place-beyond : (es : List Entry) (i : ℕ) → length es ≤ i → value_in_place i (entry_pairs es) ≡ None
value_in_place-beyond [] i le = refl
value_in_place-beyond (x ∷ es) zero le = absurd (omega (arith, le))
value_in_place-beyond (x ∷ es) (suc i) le = value_in_place-beyond es i (omega (arith, le))

-- the value in the place that is found is the value that is found
found_by : (b : Bool) (passes : PlainValue → Bool) (k v : PlainValue) (ps : PlainPairs) (o : Option ℕ)
    → option_and_then (λ i. value_in_place i ps) o ≡ value_where passes ps
    → option_and_then (λ i. value_in_place i (pair k v ps)) (if b then Some 0 else option_map suc o)
    ≡ (if b then Some v else value_where passes ps)
found_by true passes k v ps o e = refl
found_by false passes k v ps None e = e
found_by false passes k v ps (Some i) e = e

pub value_where-place : (passes : PlainValue → Bool) (ps : PlainPairs)
    → option_and_then (λ i. value_in_place i ps) (place_where passes ps) ≡ value_where passes ps
value_where-place passes no_pairs = refl
value_where-place passes (pair k v ps) =
    found_by (passes k) passes k v ps (place_where passes ps) (value_where-place passes ps)

-- ---- what is told of the pair that has a key
told_by : (b : Bool) (k l w v : PlainValue) (ps : PlainPairs) → plain_eq k l ≡ b
    → (if b then Some w else value_where (plain_eq k) ps) ≡ Some v
    → (value_where (plain_eq k) ps ≡ Some v → IsValueAt k ps v) → IsValueAt k (pair l w ps) v
told_by true k l w v ps is e rest = (0, (is, e))
told_by false k l w v ps is e rest = let r = rest e in (suc r.0, r.1)

told_at : (k v : PlainValue) (ps : PlainPairs) → value_where (plain_eq k) ps ≡ Some v → IsValueAt k ps v
told_at k v no_pairs e = absurd (cc)
told_at k v (pair l w ps) e = told_by (plain_eq k l) k l w v ps refl e (told_at k v ps)

-- what is found at a key is the value of a pair with it
pub told : {V : Type 0} (k : PlainValue) (ps : PlainPairs) (see : V → PlainValue) (r : Option V)
    → option_map see r ≡ value_where (plain_eq k) ps → IfSome r (λ v. IsValueAt k ps (see v))
told k ps see None e = tt
told k ps see (Some v) e = told_at k (see v) ps (sym e)

taken_by : (b : Bool) (k l w : PlainValue) (ps : PlainPairs) (o : Option PlainValue) → plain_eq k l ≡ b
    → o ≡ (if b then Some w else value_where (plain_eq k) ps)
    → ((u : Option PlainValue) → u ≡ value_where (plain_eq k) ps → IsTakenOut k ps (without_key k ps) u)
    → IsTakenOut k (pair l w ps) (if b then ps else pair l w (without_key k ps)) o
taken_by true k l w ps None is e rest = absurd (cc)
taken_by true k l w ps (Some v) is e rest = (0, (is, sym e), refl)
taken_by false k l w ps None is e rest = ap (pair l w) (rest None e)
taken_by false k l w ps (Some v) is e rest = let r = rest (Some v) e in (suc r.0, r.1, ap (pair l w) r.2)

-- what is taken out at a key was the value of a pair with it
pub taken_out : (k : PlainValue) (ps : PlainPairs) (o : Option PlainValue) → o ≡ value_where (plain_eq k) ps
    → IsTakenOut k ps (without_key k ps) o
taken_out k no_pairs None e = refl
taken_out k no_pairs (Some v) e = absurd (cc)
taken_out k (pair l w ps) o e = taken_by (plain_eq k l) k l w ps o refl e (λ u f. taken_out k ps u f)

is_put_by : (b : Bool) (k v l w : PlainValue) (ps : PlainPairs) (o : Option PlainValue) → plain_eq k l ≡ b
    → o ≡ (if b then Some w else value_where (plain_eq k) ps)
    → ((u : Option PlainValue) → u ≡ value_where (plain_eq k) ps → IsPut k v ps (with_pair k v ps) u)
    → IsPut k v (pair l w ps) (if b then pair l v ps else pair l w (with_pair k v ps)) o
is_put_by true k v l w ps None is e rest = absurd (cc)
is_put_by true k v l w ps (Some u) is e rest = (0, (is, sym e), refl)
is_put_by false k v l w ps None is e rest = ap (pair l w) (rest None e)
is_put_by false k v l w ps (Some u) is e rest = let r = rest (Some u) e in (suc r.0, r.1, ap (pair l w) r.2)

-- what is put at a key is the value of a pair with it, or of a new one
pub is_put : (k v : PlainValue) (ps : PlainPairs) (o : Option PlainValue) → o ≡ value_where (plain_eq k) ps
    → IsPut k v ps (with_pair k v ps) o
is_put k v no_pairs None e = refl
is_put k v no_pairs (Some u) e = absurd (cc)
is_put k v (pair l w ps) o e = is_put_by (plain_eq k l) k v l w ps o refl e (λ u f. is_put k v ps u f)

-- the pairs with a value at a key, by the place of the key
abbrev pub with_found : Option ℕ → (key value : PlainValue) → PlainPairs → PlainPairs
with_found None k v ps = with_last ps k v
with_found (Some i) k v ps = with_value i v ps

put_by : (b : Bool) (k v l w : PlainValue) (ps : PlainPairs) (o : Option ℕ) → with_found o k v ps ≡ with_pair k v ps
    → with_found (if b then Some 0 else option_map suc o) k v (pair l w ps)
    ≡ (if b then pair l v ps else pair l w (with_pair k v ps))
put_by true k v l w ps o e = refl
put_by false k v l w ps None e = ap (pair l w) e
put_by false k v l w ps (Some i) e = ap (pair l w) e

pub with_pair-place : (k v : PlainValue) (ps : PlainPairs)
    → with_found (place_where (plain_eq k) ps) k v ps ≡ with_pair k v ps
with_pair-place k v no_pairs = refl
with_pair-place k v (pair l w ps) =
    put_by (plain_eq k l) k v l w ps (place_where (plain_eq k) ps) (with_pair-place k v ps)

-- ---- an entry that is changed
pub entry_pairs-set : (es : List Entry) (i : ℕ) (e d : Entry) → plain_entry e ≡ plain_entry (get_or es i d)
    → entry_pairs (set es i e) ≡ entry_pairs es
entry_pairs-set [] i e d same = refl
entry_pairs-set (x ∷ es) zero e d same = λ j. pair (same j).0 (same j).1 (entry_pairs es)
entry_pairs-set (x ∷ es) (suc i) e d same =
    ap (pair (plain_entry x).0 (plain_entry x).1) (entry_pairs-set es i e d same)

-- an entry with another value
pub entry_pairs-put : (es : List Entry) (i : ℕ) (e d : Entry) (v : PlainValue)
    → plain_entry e ≡ ((plain_entry (get_or es i d)).0, v) → entry_pairs (set es i e) ≡ with_value i v (entry_pairs es)
entry_pairs-put [] i e d v same = refl
entry_pairs-put (x ∷ es) zero e d v same = λ j. pair (same j).0 (same j).1 (entry_pairs es)
entry_pairs-put (x ∷ es) (suc i) e d v same =
    ap (pair (plain_entry x).0 (plain_entry x).1) (entry_pairs-put es i e d v same)

-- ---- an entry that is taken out
pub entry_pairs-remove : (es : List Entry) (i : ℕ) → entry_pairs (remove es i) ≡ without_place i (entry_pairs es)
entry_pairs-remove [] zero = refl
entry_pairs-remove [] (suc i) = refl
entry_pairs-remove (e ∷ es) zero = refl
entry_pairs-remove (e ∷ es) (suc i) = ap (pair (plain_entry e).0 (plain_entry e).1) (entry_pairs-remove es i)

pub without_place-beyond : (es : List Entry) (i : ℕ) → length es ≤ i
    → without_place i (entry_pairs es) ≡ entry_pairs es
without_place-beyond [] i le = refl
without_place-beyond (e ∷ es) zero le = absurd (omega (arith, le))
without_place-beyond (e ∷ es) (suc i) le =
    ap (pair (plain_entry e).0 (plain_entry e).1) (without_place-beyond es i (omega (arith, le)))

-- without the pair in the place that is found, the pairs are those without the key
gone_by : (b : Bool) (k l w : PlainValue) (ps : PlainPairs) (o : Option ℕ) → without_found o ps ≡ without_key k ps
    → without_found (if b then Some 0 else option_map suc o) (pair l w ps)
    ≡ (if b then ps else pair l w (without_key k ps))
gone_by true k l w ps o e = refl
gone_by false k l w ps None e = ap (pair l w) e
gone_by false k l w ps (Some i) e = ap (pair l w) e

pub without_key-place : (k : PlainValue) (ps : PlainPairs)
    → without_found (place_where (plain_eq k) ps) ps ≡ without_key k ps
without_key-place k no_pairs = refl
without_key-place k (pair l w ps) =
    gone_by (plain_eq k l) k l w ps (place_where (plain_eq k) ps) (without_key-place k ps)

-- ---- what is seen of sequences and mappings
pub items_of-view : (vs : List Value) (s : DistinctItems) → (plain_items vs, are_distinct-plain_items vs) ≡ s
    → plain_items vs ≡ plain_sequence s
items_of-view vs s e = ap plain_sequence e

-- the entries of a mapping are the pairs that it is seen as
pub pairs_of-view : (es : List Entry) (m : DistinctPairs)
    → distinct_pairs (entry_pairs es) (are_pairs_distinct-entry_pairs es) ≡ m
    → keys_distinct (entry_pairs es) ≡ true → entry_pairs es ≡ plain_pairs m
pairs_of-view es m e d =
    sym (plain_pairs-distinct_pairs (entry_pairs es) (are_pairs_distinct-entry_pairs es) d) ∙ ap plain_pairs e

-- a mapping made of entries with distinct keys has their pairs
pub view-entries : (es : List Entry) → keys_distinct (entry_pairs es) ≡ true
    → plain_pairs (distinct_pairs (entry_pairs es) (are_pairs_distinct-entry_pairs es)) ≡ entry_pairs es
view-entries es d = plain_pairs-distinct_pairs (entry_pairs es) (are_pairs_distinct-entry_pairs es) d

nowhere_by : (b : Bool) (w : PlainValue) (o : Option PlainValue) (p : Option ℕ) → (if b then Some w else o) ≡ None
    → (o ≡ None → p ≡ None) → (if b then Some 0 else option_map suc p) ≡ None
nowhere_by true w o p e h = absurd (cc)
nowhere_by false w o p e h = ap (option_map suc) (h e)

-- where there is no value at a key, the key has no place
pub nowhere : (k : PlainValue) (ps : PlainPairs) → value_where (plain_eq k) ps ≡ None
    → place_where (plain_eq k) ps ≡ None
nowhere k no_pairs e = refl
nowhere k (pair l w ps) e =
    nowhere_by (plain_eq k l) w (value_where (plain_eq k) ps) (place_where (plain_eq k) ps) e (nowhere k ps)

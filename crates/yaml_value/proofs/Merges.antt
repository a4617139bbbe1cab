-- What merging adds, one by one, and what it leaves of a list, place by place.
use Rattle.std.specs.Prelude.{◌≡◌, ℕ, suc, zero, ◌+◌, ◌≤◌, false, refl}
use Rattle.std.specs.Prelude.{List, [], ◌∷◌, length, set, Option, Some, None, is_some, unwrap_or, Result, Ok, Err}
use Rattle.std.proofs.Common.{ap, arith, sym, ◌∙◌, subst}
use Rattle.yaml_base.specs.Answer.{is_memory}
use Rattle.yaml_base.specs.declared.error.Cause.{Cause}
use Rattle.yaml_value.specs.Find.{item_in_place, value_in_place, with_value}
use Rattle.yaml_value.specs.Merge.{Leaves, Left, and_rest, each_item, each_value, left_as, merged}
use Rattle.yaml_value.specs.Merge.{own_merged}
use Rattle.yaml_value.specs.Merge.{then_left, with_item_at}
use Rattle.yaml_value.specs.PlainValue.{PlainValue, sequence, mapping, tagged}
use Rattle.yaml_value.specs.PlainValue.{PlainItems, no_items, item, PlainPairs, no_pairs, pair, pair_count}
use Rattle.yaml_value.specs.View.{plain, plain_items}
use Rattle.yaml_value.specs.declared.value.Value.{Value}

-- where there is no value, there is none
pub none_there : {A : Type 0} (o : Option A) → is_some o ≡ false → o ≡ None
none_there None e = refl
none_there (Some x) e = absurd (cc)

-- ---- values, place by place
rest_on : {S T : Type 0} (put : S → T → T) (l : Left S) (rest : T) (left : Left T) → l.1 ≡ None
    → and_rest put l rest left ≡ left_as (put l.0) left
rest_on put (x, None) rest left e = refl
rest_on put (x, Some c) rest left e = absurd (cc)

rest_stops : {S T : Type 0} (put : S → T → T) (l : Left S) (rest : T) (left : Left T) (c : Cause) → l.1 ≡ Some c
    → and_rest put l rest left ≡ (put l.0 rest, Some c)
rest_stops put (x, None) rest left c e = absurd (cc)
rest_stops put (x, Some d) rest left c e = ap (λ o. (put x rest, o)) e

-- what is left from a place on
abbrev pub values_from : ℕ → (PlainValue → Left PlainValue) → PlainPairs → Left PlainPairs
values_from zero f ps = each_value f ps
values_from (suc i) f no_pairs = (no_pairs, None)
values_from (suc i) f (pair k v ps) = left_as (pair k v) (values_from i f ps)

values_next : (i : ℕ) (f : PlainValue → Left PlainValue) (ps : PlainPairs) (v : PlainValue)
    → value_in_place i ps ≡ Some v → (f v).1 ≡ None
    → values_from i f ps ≡ values_from (suc i) f (with_value i (f v).0 ps)
values_next i f no_pairs v at e = absurd (cc)
values_next zero f (pair k w ps) v at e =
    let same : w ≡ v = ap (λ o. unwrap_or o w) at in
    rest_on (pair k) (f w) ps (each_value f ps) (ap (λ x. (f x).1) same ∙ e)
    ∙ ap (λ x. left_as (pair k (f x).0) (each_value f ps)) same
values_next (suc i) f (pair k w ps) v at e = ap (left_as (pair k w)) (values_next i f ps v at e)

pub values_on : (i : ℕ) (f : PlainValue → Left PlainValue) (ps : PlainPairs) (v : PlainValue)
    → value_in_place i ps ≡ Some v → (f v).1 ≡ None
    → values_from i f ps ≡ values_from (i + 1) f (with_value i (f v).0 ps)
values_on i f ps v at e =
    let one_more : suc i ≡ i + 1 = omega arith in
    values_next i f ps v at e ∙ ap (λ n. values_from n f (with_value i (f v).0 ps)) one_more

pub values_stop : (i : ℕ) (f : PlainValue → Left PlainValue) (ps : PlainPairs) (v : PlainValue) (c : Cause)
    → value_in_place i ps ≡ Some v → (f v).1 ≡ Some c → values_from i f ps ≡ (with_value i (f v).0 ps, Some c)
values_stop i f no_pairs v c at e = absurd (cc)
values_stop zero f (pair k w ps) v c at e =
    let same : w ≡ v = ap (λ o. unwrap_or o w) at in
    rest_stops (pair k) (f w) ps (each_value f ps) c (ap (λ x. (f x).1) same ∙ e)
    ∙ ap (λ x. (pair k (f x).0 ps, Some c)) same
values_stop (suc i) f (pair k w ps) v c at e = ap (left_as (pair k w)) (values_stop i f ps v c at e)

pub values_end : (i : ℕ) (f : PlainValue → Left PlainValue) (ps : PlainPairs) → pair_count ps ≤ i
    → values_from i f ps ≡ (ps, None)
values_end zero f no_pairs le = refl
values_end (suc i) f no_pairs le = refl
values_end zero f (pair k v ps) le = absurd (omega (arith, le))
values_end (suc i) f (pair k v ps) le = ap (left_as (pair k v)) (values_end i f ps (omega (arith, le)))

-- ---- the same of items
abbrev pub items_from : ℕ → (PlainValue → Left PlainValue) → PlainItems → Left PlainItems
items_from zero f vs = each_item f vs
items_from (suc i) f no_items = (no_items, None)
items_from (suc i) f (item v vs) = left_as (item v) (items_from i f vs)

pub plain_items-set : (vs : List Value) (i : ℕ) (v : Value)
    → plain_items (set vs i v) ≡ with_item_at i (plain v) (plain_items vs)
plain_items-set [] i v = refl
plain_items-set (x ∷ vs) zero v = refl
plain_items-set (x ∷ vs) (suc i) v = ap (item (plain x)) (plain_items-set vs i v)

items_next : (i : ℕ) (f : PlainValue → Left PlainValue) (vs : PlainItems) (v : PlainValue)
    → item_in_place i vs ≡ Some v → (f v).1 ≡ None
    → items_from i f vs ≡ items_from (suc i) f (with_item_at i (f v).0 vs)
items_next i f no_items v at e = absurd (cc)
items_next zero f (item w vs) v at e =
    let same : w ≡ v = ap (λ o. unwrap_or o w) at in
    rest_on item (f w) vs (each_item f vs) (ap (λ x. (f x).1) same ∙ e)
    ∙ ap (λ x. left_as (item (f x).0) (each_item f vs)) same
items_next (suc i) f (item w vs) v at e = ap (left_as (item w)) (items_next i f vs v at e)

pub items_on : (i : ℕ) (f : PlainValue → Left PlainValue) (vs : PlainItems) (v : PlainValue)
    → item_in_place i vs ≡ Some v → (f v).1 ≡ None
    → items_from i f vs ≡ items_from (i + 1) f (with_item_at i (f v).0 vs)
items_on i f vs v at e =
    let one_more : suc i ≡ i + 1 = omega arith in
    items_next i f vs v at e ∙ ap (λ n. items_from n f (with_item_at i (f v).0 vs)) one_more

pub items_stop : (i : ℕ) (f : PlainValue → Left PlainValue) (vs : PlainItems) (v : PlainValue) (c : Cause)
    → item_in_place i vs ≡ Some v → (f v).1 ≡ Some c → items_from i f vs ≡ (with_item_at i (f v).0 vs, Some c)
items_stop i f no_items v c at e = absurd (cc)
items_stop zero f (item w vs) v c at e =
    let same : w ≡ v = ap (λ o. unwrap_or o w) at in
    rest_stops item (f w) vs (each_item f vs) c (ap (λ x. (f x).1) same ∙ e)
    ∙ ap (λ x. (item (f x).0 vs, Some c)) same
items_stop (suc i) f (item w vs) v c at e = ap (left_as (item w)) (items_stop i f vs v c at e)

pub items_end : (i : ℕ) (f : PlainValue → Left PlainValue) (vs : List Value) → length vs ≤ i
    → items_from i f (plain_items vs) ≡ (plain_items vs, None)
items_end zero f [] le = refl
items_end (suc i) f [] le = refl
items_end zero f (x ∷ vs) le = absurd (omega (arith, le))
items_end (suc i) f (x ∷ vs) le = ap (left_as (item (plain x))) (items_end i f vs (omega (arith, le)))

-- ---- what a call leaves
pub leaves_as : {S T : Type 0} (f : S → T) (r : Result (Unit {0}) Cause) (x : S) (l : Left S) → Leaves r x l
    → Leaves r (f x) (left_as f l)
leaves_as f (Ok u) x l h = ap (left_as f) h
leaves_as f (Err c) x l h = λ e. ap (left_as f) (h e)

-- a call that leaves no fault fails for want of memory alone
pub memory_alone : {T : Type 0} (l left : Left T) (y : T) (c : Cause) → l.1 ≡ None
    → (is_memory c ≡ false → l ≡ (y, Some c)) → is_memory c ≡ false → left ≡ (y, Some c)
memory_alone l left y c none h e = absurd (none_some (sym none ∙ ap (λ x. x.1) (h e)))
  where
    none_some : {A : Type 0} {a : A} → None ≡ Some a → ⊥
    none_some e = absurd (cc)

-- ---- what is left of a value by its kind
pub left_of_mapping : (n left : ℕ) (r : Result (Unit {0}) Cause) (ps x : PlainPairs) (v w : PlainValue)
    → v ≡ mapping ps → w ≡ mapping x → n ≡ suc left → Leaves r x (then_left (own_merged ps) (each_value (merged left)))
    → Leaves r w (merged n v)
left_of_mapping n left r ps x v w of to less h =
    subst (λ m. Leaves r w (merged m v)) (sym less)
    (subst (λ u. Leaves r u (merged (suc left) v)) (sym to)
    (subst (λ u. Leaves r (mapping x) (merged (suc left) u)) (sym of)
    (leaves_as mapping r x (then_left (own_merged ps) (each_value (merged left))) h)))

pub left_of_sequence : (n left : ℕ) (r : Result (Unit {0}) Cause) (vs x : PlainItems) (v w : PlainValue)
    → v ≡ sequence vs → w ≡ sequence x → n ≡ suc left → Leaves r x (each_item (merged left) vs)
    → Leaves r w (merged n v)
left_of_sequence n left r vs x v w of to less h =
    subst (λ m. Leaves r w (merged m v)) (sym less)
    (subst (λ u. Leaves r u (merged (suc left) v)) (sym to)
    (subst (λ u. Leaves r (sequence x) (merged (suc left) u)) (sym of)
    (leaves_as sequence r x (each_item (merged left) vs) h)))

pub left_of_tagged : (n left : ℕ) (r : Result (Unit {0}) Cause) (tag : List ℕ) (u x : PlainValue) (v w : PlainValue)
    → v ≡ tagged tag u → w ≡ tagged tag x → n ≡ suc left → Leaves r x (merged left u) → Leaves r w (merged n v)
left_of_tagged n left r tag u x v w of to less h =
    subst (λ m. Leaves r w (merged m v)) (sym less)
    (subst (λ y. Leaves r y (merged (suc left) v)) (sym to)
    (subst (λ y. Leaves r (tagged tag x) (merged (suc left) y)) (sym of)
    (leaves_as (tagged tag) r x (merged left u) h)))

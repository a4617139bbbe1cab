-- What decides equality, place by place.
use Rattle.std.specs.Prelude.{◌≡◌, ℕ, zero, suc, ◌+◌, ◌<◌, Bool, true, false, not, ◌&&◌, ◌||◌, ◌==◌, if◌then◌else◌}
use Rattle.std.specs.Prelude.{List, [], ◌∷◌, length, Option, Some, None, option_map, refl}
use Rattle.std.proofs.Common.{ap, arith, sym, ◌∙◌, get_or, drop, true≢false}
use Rattle.std.proofs.lemmas.Bool.Decides.{nat_tests}
use Rattle.std.proofs.lemmas.List.{drop_more}
use Rattle.yaml_tree.specs.TakeOut.{and_left, and_right}
use Rattle.yaml_value.specs.Distinct.{has_key, is_distinct, keys_distinct}
use Rattle.yaml_value.specs.Find.{is_key_at, place_where}
use Rattle.yaml_value.specs.PlainEqual.{entry_eq, has_all_pairs, has_pair, items_eq, pairs_eq, plain_eq, value_where}
use Rattle.yaml_value.specs.PlainValue.{PlainValue, PlainPairs, no_pairs, pair, pair_count}
use Rattle.yaml_value.specs.View.{entry_pairs, plain, plain_entry, plain_items}
use Rattle.yaml_value.specs.declared.mapping.Entry.{Entry}
use Rattle.yaml_value.specs.declared.value.Value.{Value}
use Rattle.yaml_value.proofs.Equivalence.{IsSymmetric, not_true, or_left, or_right, plain_eq-symm, plain_eq-trans}
use Rattle.yaml_value.proofs.Views.{pair_count-entries}

and_right_false : (a b : Bool) → b ≡ false → (a && b) ≡ false
and_right_false true b e = e
and_right_false false b e = refl

or_true : (a b : Bool) → b ≡ true → (a || b) ≡ true
or_true true b e = refl
or_true false b e = e

-- ---- lists of values
pub items_eq-lengths : (xs ys : List Value) → (length xs ≡ length ys → ⊥)
    → items_eq (plain_items xs) (plain_items ys) ≡ false
items_eq-lengths [] [] n = absurd (n refl)
items_eq-lengths [] (y ∷ ys) n = refl
items_eq-lengths (x ∷ xs) [] n = refl
items_eq-lengths (x ∷ xs) (y ∷ ys) n =
    and_right_false (plain_eq (plain x) (plain y)) _ (items_eq-lengths xs ys (λ e. n (ap suc e)))

pub items_eq-step : (xs ys : List Value) (i : ℕ) (x y : Value) (b : Bool) → i < length xs → i < length ys
    → x ≡ get_or xs i x → y ≡ get_or ys i y → plain_eq (plain x) (plain y) ≡ b
    → items_eq (plain_items (drop i xs)) (plain_items (drop i ys))
    ≡ (b && items_eq (plain_items (drop (i + 1) xs)) (plain_items (drop (i + 1) ys)))
items_eq-step xs ys i x y b lx ly ix iy e =
    (λ j. items_eq (plain_items (drop_more xs i x lx j)) (plain_items (drop_more ys i y ly j)))
    ∙ ((λ j. plain_eq (plain (sym ix j)) (plain (sym iy j))
    && items_eq (plain_items (drop (i + 1) xs)) (plain_items (drop (i + 1) ys)))
    ∙ ap (λ t. t && items_eq (plain_items (drop (i + 1) xs)) (plain_items (drop (i + 1) ys))) e)

-- ---- lists of entries
pub pairs_eq-lengths : (xs ys : List Entry) → (length xs ≡ length ys → ⊥)
    → pairs_eq (entry_pairs xs) (entry_pairs ys) ≡ false
pairs_eq-lengths xs ys n =
    let other : (pair_count (entry_pairs xs) == pair_count (entry_pairs ys)) ≡ false =
    grind (arith, nat_tests, pair_count-entries xs, pair_count-entries ys) in
    ap (λ b. b && has_all_pairs (entry_pairs xs) (entry_pairs ys)) other

pub pairs_eq-same_length : (xs ys : List Entry) → length xs ≡ length ys
    → pairs_eq (entry_pairs xs) (entry_pairs ys) ≡ has_all_pairs (entry_pairs xs) (entry_pairs ys)
pairs_eq-same_length xs ys e =
    let same : (pair_count (entry_pairs xs) == pair_count (entry_pairs ys)) ≡ true =
    grind (arith, nat_tests, pair_count-entries xs, pair_count-entries ys) in
    ap (λ b. b && has_all_pairs (entry_pairs xs) (entry_pairs ys)) same

pub has_all_pairs-step : (ws : List Entry) (qs : PlainPairs) (i : ℕ) (d : Entry) (b : Bool) → i < length ws
    → d ≡ get_or ws i d → has_pair (plain_entry d) qs ≡ b
    → has_all_pairs (entry_pairs (drop i ws)) qs ≡ (b && has_all_pairs (entry_pairs (drop (i + 1) ws)) qs)
has_all_pairs-step ws qs i d b lt is e =
    ap (λ xs. has_all_pairs (entry_pairs xs) qs) (drop_more ws i d lt)
    ∙ ap (λ t. t && has_all_pairs (entry_pairs (drop (i + 1) ws)) qs)
    (ap (λ x. has_pair (plain_entry x) qs) (sym is) ∙ e)

pub has_pair-step : (p : PlainValue × PlainValue) (es : List Entry) (i : ℕ) (d : Entry) (b : Bool) → i < length es
    → d ≡ get_or es i d → entry_eq p (plain_entry d) ≡ b
    → has_pair p (entry_pairs (drop i es)) ≡ (b || has_pair p (entry_pairs (drop (i + 1) es)))
has_pair-step p es i d b lt is e =
    ap (λ xs. has_pair p (entry_pairs xs)) (drop_more es i d lt)
    ∙ ap (λ t. t || has_pair p (entry_pairs (drop (i + 1) es)))
    (ap (λ x. entry_eq p (plain_entry x)) (sym is) ∙ e)

pub has_pair-at : (p : PlainValue × PlainValue) (es : List Entry) (i : ℕ) (d : Entry) → i < length es
    → d ≡ get_or es i d → entry_eq p (plain_entry d) ≡ true → has_pair p (entry_pairs es) ≡ true
has_pair-at p [] i d lt is same = absurd (omega (arith, lt))
has_pair-at p (e ∷ es) zero d lt is same =
    ap (λ x. entry_eq p (plain_entry x) || has_pair p (entry_pairs es)) (sym is)
    ∙ ap (λ b. b || has_pair p (entry_pairs es)) same
has_pair-at p (e ∷ es) (suc i) d lt is same =
    or_true (entry_eq p (plain_entry e)) _ (has_pair-at p es i d (omega (arith, lt)) is same)

-- ---- a key in its place
pub is_key_at-entry : (k : PlainValue) (es : List Entry) (i : ℕ) (d : Entry) → i < length es → d ≡ get_or es i d
    → is_key_at k i (entry_pairs es) ≡ plain_eq k (plain_entry d).0
is_key_at-entry k [] i d lt is = absurd (omega (arith, lt))
is_key_at-entry k (e ∷ es) zero d lt is = ap (λ x. plain_eq k (plain_entry x).0) (sym is)
is_key_at-entry k (e ∷ es) (suc i) d lt is = is_key_at-entry k es i d (omega (arith, lt)) is

moved : (i : ℕ) (o : Option ℕ) → option_map (λ n. i + n) (option_map suc o) ≡ option_map (λ n. i + 1 + n) o
moved i None = refl
moved i (Some n) = ap Some (omega arith)

pub place_where-step : (i : ℕ) (passes : PlainValue → Bool) (es : List Entry) (d : Entry) (b : Bool) → i < length es
    → d ≡ get_or es i d → passes (plain_entry d).0 ≡ b
    → option_map (λ n. i + n) (place_where passes (entry_pairs (drop i es)))
    ≡ (if b then Some i else option_map (λ n. i + 1 + n) (place_where passes (entry_pairs (drop (i + 1) es))))
place_where-step i passes es d b lt is e =
    let rest = place_where passes (entry_pairs (drop (i + 1) es)) in
    ap (λ xs. option_map (λ n. i + n) (place_where passes (entry_pairs xs))) (drop_more es i d lt)
    ∙ (ap (λ t. option_map (λ n. i + n) (if t then Some 0 else option_map suc rest))
    (ap (λ x. passes (plain_entry x).0) (sym is) ∙ e) ∙ by b rest)
  where
    by : (t : Bool) (o : Option ℕ) → option_map (λ n. i + n) (if t then Some 0 else option_map suc o)
        ≡ (if t then Some i else option_map (λ n. i + 1 + n) o)
    by true o = ap Some (omega arith)
    by false o = moved i o

-- ---- what the key is found by says whether the pair is there
-- a value is equal to what was found
abbrev pub is_value_equal : PlainValue → Option PlainValue → Bool
is_value_equal v None = false
is_value_equal v (Some w) = plain_eq v w

pair-value_by : (b : Bool) (k v l w : PlainValue) (ps : PlainPairs) → plain_eq k l ≡ b → has_key l ps ≡ false
    → IsSymmetric k → has_pair (k, v) ps ≡ is_value_equal v (value_where (plain_eq k) ps)
    → ((b && plain_eq v w) || has_pair (k, v) ps) ≡ is_value_equal v (if b then Some w else value_where (plain_eq k) ps)
pair-value_by true k v l w ps is none s ih =
    no_more (plain_eq v w) (has_pair (k, v) ps) (nowhere k v l ps (s l is) none)
  where
    no_more : (a b : Bool) → b ≡ false → (a || b) ≡ a
    no_more true b e = refl
    no_more false b e = e

    absent : (b c : Bool) (l k m : PlainValue) → plain_eq l k ≡ true → plain_eq l m ≡ false → plain_eq k m ≡ b
        → (b && c) ≡ false
    absent true c l k m e n is = absurd (true≢false (sym (plain_eq-trans l k m e is) ∙ n))
    absent false c l k m e n is = refl

    nowhere : (k v l : PlainValue) (ps : PlainPairs) → plain_eq l k ≡ true → has_key l ps ≡ false
        → has_pair (k, v) ps ≡ false
    nowhere k v l no_pairs e n = refl
    nowhere k v l (pair m u ps) e n =
        λ j. absent (plain_eq k m) (plain_eq v u) l k m e (or_left (plain_eq l m) (has_key l ps) n) refl j
        || nowhere k v l ps e (or_right (plain_eq l m) (has_key l ps) n) j
pair-value_by false k v l w ps is none s ih = ih

-- where keys are distinct, a pair is there if its value is equal to the value at its key
pub has_pair-value : (k v : PlainValue) (ps : PlainPairs) → is_distinct k ≡ true → keys_distinct ps ≡ true
    → has_pair (k, v) ps ≡ is_value_equal v (value_where (plain_eq k) ps)
has_pair-value k v no_pairs s d = refl
has_pair-value k v (pair l w ps) s d =
    pair-value_by (plain_eq k l) k v l w ps refl (not_true (has_key l ps) (and_left _ _ d))
    (λ m e. plain_eq-symm k m s e) (has_pair-value k v ps s (and_right (not (has_key l ps)) _ d))

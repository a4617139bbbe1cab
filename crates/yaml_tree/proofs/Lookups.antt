-- What the place of a key says of the value there, of the pairs with a new value, and of the keys.
use Rattle.std.specs.Prelude.{◌≡◌, ℕ, zero, suc, ◌<◌, List, [], ◌∷◌, ◌++◌, length, refl, true, false, Bool}
use Rattle.std.specs.Prelude.{Option, Some, None, option_map, if◌then◌else◌, ◌||◌, ◌&&◌, not}
use Rattle.std.proofs.Common.{ap, arith, sym, ◌∙◌, get_or, set, subst, true≢false}
use Rattle.yaml_tree.specs.Entries.{with_value, new_entry}
use Rattle.yaml_tree.specs.Equal.{tree_eq}
use Rattle.yaml_tree.specs.EqualLaws.{tree_eq-symm, tree_eq-congr}
use Rattle.yaml_tree.specs.Lookup.{place_of_key, has_pair}
use Rattle.yaml_tree.specs.Mapping.{has_key, keys_distinct, value_at, with_pair}
use Rattle.yaml_tree.specs.TakeOut.{and_left, and_right}
use Rattle.yaml_tree.specs.Tree.{Tree, Pairs, pair, no_pairs}
use Rattle.yaml_tree.specs.View.{tree_of, entry_pairs}
use Rattle.yaml_tree.specs.declared.mapping.Entry.{Entry}
use Rattle.yaml_tree.specs.declared.value.Value.{Value}

-- ---- booleans
-- the first part of a disjunction that fails
pub or_left : (a b : Bool) → (a || b) ≡ false → a ≡ false
or_left true b e = e
or_left false b e = refl

-- its second part
pub or_right : (a b : Bool) → (a || b) ≡ false → b ≡ false
or_right true b e = absurd (true≢false e)
or_right false b e = e

or_false : (a : Bool) → (a || false) ≡ a
or_false true = refl
or_false false = refl

-- what is not, fails
pub not_true : (a : Bool) → not a ≡ true → a ≡ false
not_true true e = sym e
not_true false e = refl

-- ---- the first key of distinct ones is not among the others
-- of pairs with distinct keys, the first key is not one of the others
pub first_key : (l w : Tree) (ps : Pairs) → keys_distinct (pair l w ps) ≡ true → has_key l ps ≡ false
first_key l w ps d = not_true _ (and_left _ _ d)

-- of pairs with distinct keys, the others have distinct keys
pub other_keys : (l w : Tree) (ps : Pairs) → keys_distinct (pair l w ps) ≡ true → keys_distinct ps ≡ true
other_keys l w ps d = and_right (not (has_key l ps)) _ d

-- ---- the value at a place
-- what a place says of the value there, and of the pairs once there is another value
abbrev pub HoldsAt : Tree → List Entry → ℕ → Type 0
HoldsAt k es i =
    (d : Entry) → (value_at k (entry_pairs es) ≡ Some (tree_of (get_or es i d).value))
    × ((v : Value) → with_pair k (tree_of v) (entry_pairs es) ≡ entry_pairs (set es i (with_value (get_or es i d) v)))

-- what no place says of them
abbrev pub HoldsNot : Tree → List Entry → Type 0
HoldsNot k es =
    (value_at k (entry_pairs es) ≡ None)
    × ((c v : Value) → k ≡ tree_of c
    → with_pair k (tree_of v) (entry_pairs es) ≡ entry_pairs (es ++ new_entry c v ∷ []))

-- what a place or none says
abbrev pub Holds : Tree → List Entry → Option ℕ → Type 0
Holds k es None = HoldsNot k es
Holds k es (Some i) = HoldsAt k es i

-- the value at a key, and the pairs with another value there, where a test says whether the first pair has that key
abbrev value_by : Bool → Tree → Entry → List Entry → Option Tree
value_by b k e es = if b then Some (tree_of e.value) else value_at k (entry_pairs es)

abbrev with_pair_by : Bool → Tree → Tree → Entry → List Entry → Pairs
with_pair_by b k v e es =
    if b then pair (tree_of e.key) v (entry_pairs es)
    else pair (tree_of e.key) (tree_of e.value) (with_pair k v (entry_pairs es))

holds_by : (b : Bool) (k : Tree) (e : Entry) (es : List Entry) (o : Option ℕ) → tree_eq k (tree_of e.key) ≡ b
    → Holds k es o → Holds k (e ∷ es) (if b then Some 0 else option_map suc o)
holds_by true k e es o is h =
    λ d. (ap (λ b. value_by b k e es) is, λ v. ap (λ b. with_pair_by b k (tree_of v) e es) is)
holds_by false k e es None is h = (
  ap (λ b. value_by b k e es) is ∙ h.0,
  λ c v p. ap (λ b. with_pair_by b k (tree_of v) e es) is
      ∙ ap (pair (tree_of e.key) (tree_of e.value)) (h.1 c v p),
)
holds_by false k e es (Some i) is h =
    λ d. (
      ap (λ b. value_by b k e es) is ∙ (h d).0,
      λ v. ap (λ b. with_pair_by b k (tree_of v) e es) is ∙ ap (pair (tree_of e.key) (tree_of e.value)) ((h d).1 v),
    )

-- the place of a key says these
pub holds_at_place : (k : Tree) (es : List Entry) → Holds k es (place_of_key k (entry_pairs es))
holds_at_place k [] = (refl, λ c v p. ap (λ t. pair t (tree_of v) no_pairs) p)
holds_at_place k (e ∷ es) =
    holds_by (tree_eq k (tree_of e.key)) k e es (place_of_key k (entry_pairs es)) refl (holds_at_place k es)

-- so does what is the place of a key among these entries
pub holds_at_found : (k : Tree) (xs es : List Entry) (o : Option ℕ) → xs ≡ es → o ≡ place_of_key k (entry_pairs xs)
    → Holds k es o
holds_at_found k xs es o same found =
    subst (λ ys. Holds k ys o) same (subst (Holds k xs) (sym found) (holds_at_place k xs))

-- ---- a place that was guessed
other_key : (l : Tree) (es : List Entry) (i : ℕ) (d : Entry) → has_key l (entry_pairs es) ≡ false → i < length es
    → tree_eq l (tree_of (get_or es i d).key) ≡ false
other_key l [] i d n lt = absurd (omega (arith, lt))
other_key l (e ∷ es) zero d n lt = or_left _ _ n
other_key l (e ∷ es) (suc i) d n lt = other_key l es i d (or_right (tree_eq l (tree_of e.key)) _ n) (omega (arith, lt))

place_by : (b : Bool) (k : Tree) (e : Entry) (es : List Entry) (i : ℕ) (d : Entry) → tree_eq k (tree_of e.key) ≡ b
    → has_key (tree_of e.key) (entry_pairs es) ≡ false → i < length es
    → tree_eq k (tree_of (get_or es i d).key) ≡ true → place_of_key k (entry_pairs es) ≡ Some i
    → (if b then Some 0 else option_map suc (place_of_key k (entry_pairs es))) ≡ Some (suc i)
place_by true k e es i d is n lt q ih =
    let t = tree_of (get_or es i d).key in
    absurd (true≢false (sym q ∙ (tree_eq-congr k (tree_of e.key) is t ∙ other_key (tree_of e.key) es i d n lt)))
place_by false k e es i d is n lt q ih = ap (option_map suc) ih

-- among distinct keys, one that is equal to this stands at its place
pub place_of_key-guess : (k : Tree) (es : List Entry) (i : ℕ) (d : Entry) → keys_distinct (entry_pairs es) ≡ true
    → i < length es → tree_eq k (tree_of (get_or es i d).key) ≡ true → place_of_key k (entry_pairs es) ≡ Some i
place_of_key-guess k [] i d h lt q = absurd (omega (arith, lt))
place_of_key-guess k (e ∷ es) zero d h lt q =
    ap (λ b. if b then Some 0 else option_map suc (place_of_key k (entry_pairs es))) q
place_of_key-guess k (e ∷ es) (suc i) d h lt q =
    let l = tree_of e.key in let w = tree_of e.value in
    place_by (tree_eq k l) k e es i d refl (first_key l w (entry_pairs es) h) (omega (arith, lt)) q
    (place_of_key-guess k es i d (other_keys l w (entry_pairs es) h) (omega (arith, lt)) q)

-- ---- a pair among pairs with distinct keys
has_key-alike : (k l : Tree) (ps : Pairs) → tree_eq k l ≡ true → has_key k ps ≡ has_key l ps
has_key-alike k l no_pairs q = refl
has_key-alike k l (pair m u ps) q = λ i. tree_eq-congr k l q m i || has_key-alike k l ps q i

has_pair-absent : (k v : Tree) (ps : Pairs) → has_key k ps ≡ false → has_pair k v ps ≡ false
has_pair-absent k v no_pairs n = refl
has_pair-absent k v (pair m u ps) n =
    λ i. (or_left (tree_eq k m) _ n i && tree_eq v u) || has_pair-absent k v ps (or_right (tree_eq k m) _ n) i

-- there is a value, and it is equal to this
abbrev pub is_value_equal : Tree → Option Tree → Bool
is_value_equal v None = false
is_value_equal v (Some w) = tree_eq v w

has_pair_by : (b : Bool) (k v l w : Tree) (ps : Pairs) → tree_eq k l ≡ b → has_key l ps ≡ false
    → has_pair k v ps ≡ is_value_equal v (value_at k ps)
    → ((b && tree_eq v w) || has_pair k v ps) ≡ is_value_equal v (if b then Some w else value_at k ps)
has_pair_by true k v l w ps is n ih =
    ap (λ c. tree_eq v w || c) (has_pair-absent k v ps (has_key-alike k l ps is ∙ n)) ∙ or_false (tree_eq v w)
has_pair_by false k v l w ps is n ih = ih

-- among distinct keys, a pair is there where its value is equal to the one at its key
pub has_pair-value_at : (k v : Tree) (ps : Pairs) → keys_distinct ps ≡ true
    → has_pair k v ps ≡ is_value_equal v (value_at k ps)
has_pair-value_at k v no_pairs d = refl
has_pair-value_at k v (pair l w ps) d =
    has_pair_by (tree_eq k l) k v l w ps refl (first_key l w ps d) (has_pair-value_at k v ps (other_keys l w ps d))

-- ---- keys stay distinct
has_key-with_pair_by : (b : Bool) (j k v l w : Tree) (ps : Pairs) → tree_eq j l ≡ false → has_key j ps ≡ false
    → has_key j (with_pair k v ps) ≡ false → has_key j (if b then pair l v ps else pair l w (with_pair k v ps)) ≡ false
has_key-with_pair_by true j k v l w ps n h ih = λ i. n i || h i
has_key-with_pair_by false j k v l w ps n h ih = λ i. n i || ih i

has_key-with_pair : (j k v : Tree) (ps : Pairs) → tree_eq j k ≡ false → has_key j ps ≡ false
    → has_key j (with_pair k v ps) ≡ false
has_key-with_pair j k v no_pairs n h = λ i. n i || false
has_key-with_pair j k v (pair l w ps) n h =
    has_key-with_pair_by (tree_eq k l) j k v l w ps (or_left _ _ h) (or_right (tree_eq j l) _ h)
    (has_key-with_pair j k v ps n (or_right (tree_eq j l) _ h))

keys_distinct-with_pair_by : (b : Bool) (k v l w : Tree) (ps : Pairs) → tree_eq k l ≡ b → has_key l ps ≡ false
    → keys_distinct ps ≡ true → keys_distinct (with_pair k v ps) ≡ true
    → keys_distinct (if b then pair l v ps else pair l w (with_pair k v ps)) ≡ true
keys_distinct-with_pair_by true k v l w ps e h d ih = λ i. not (h i) && d i
keys_distinct-with_pair_by false k v l w ps e h d ih =
    λ i. not (has_key-with_pair l k v ps (tree_eq-symm l k ∙ e) h i) && ih i

-- with one more value at a key, keys are as distinct as before
pub keys_distinct-with_pair : (k v : Tree) (ps : Pairs) → keys_distinct ps ≡ true
    → keys_distinct (with_pair k v ps) ≡ true
keys_distinct-with_pair k v no_pairs d = refl
keys_distinct-with_pair k v (pair l w ps) d =
    keys_distinct-with_pair_by (tree_eq k l) k v l w ps refl (first_key l w ps d) (other_keys l w ps d)
    (keys_distinct-with_pair k v ps (other_keys l w ps d))

-- What the index of entries says: where a key can be, and what stays when entries change.
use Rattle.std.specs.Prelude.{◌≡◌, ℕ, zero, suc, ◌+◌, ◌-◌, ◌<◌, ◌≤◌, ◌==◌, ◌%◌, ◌++◌, ◌∷◌, [], List, length, refl}
use Rattle.std.specs.Prelude.{Bool, true, false, ◌&&◌, ◌||◌, not, Option, Some, None, option_map, if◌then◌else◌, ◌⊎◌}
use Rattle.std.proofs.Common.{ap, arith, sym, ◌∙◌, get_or, set, subst, true≢false, inl, inr, eq-or-lt_of_le}
use Rattle.std.proofs.lemmas.Bool.{and_from, cases_lt}
use Rattle.std.proofs.lemmas.Bool.Decides.{Decides-eqb}
use Rattle.std.proofs.Math.Seq.{map-set_same}
use Rattle.std.proofs.lemmas.List.{get_or-set_same, get_or-set_other, length-append, length-map, length-set, map_push}
use Rattle.yaml_tree.specs.TakeOut.{and_left, and_right}
use Rattle.yaml_tree.specs.Index.{AreChains, chain_at, chain_count, last_before}
use Rattle.yaml_tree.proofs.Chains.{IsLeft, left-last, last_before-le, gap-last, chain-left, chains-next, chains-more}
use Rattle.yaml_value.specs.Distinct.{has_key, keys_distinct, is_distinct, are_pairs_distinct}
use Rattle.yaml_value.specs.Find.{is_key_at, place_where, with_value, without_place}
use Rattle.yaml_value.specs.Hash.{hash_of}
use Rattle.yaml_value.specs.Index.{lasts_of, earliers_of, key_hashes, IsChained, IsIndexedTo, IsIndexed, IsSound}
use Rattle.yaml_value.specs.Index.{chain_end}
use Rattle.yaml_value.specs.PlainEqual.{plain_eq}
use Rattle.yaml_value.specs.PlainValue.{PlainValue, PlainPairs, no_pairs, pair, pair_count, with_last}
use Rattle.yaml_value.specs.View.{entry_pairs, plain_entry}
use Rattle.yaml_value.specs.declared.mapping.Entry.{Entry}
use Rattle.yaml_value.proofs.EqualHashes.{same_hash}
use Rattle.yaml_value.proofs.Equivalence.{not_true, or_left, or_right, plain_eq-symm, plain_eq-trans}
use Rattle.yaml_value.proofs.Views.{entry_pairs-push, entry_pairs-put, pair_count-entries}

-- ---- the hashes of keys
pub hash-at : (es : List Entry) (i : ℕ) (d : Entry) → i < length es → d ≡ get_or es i d
    → get_or (key_hashes (entry_pairs es)) i 0 ≡ hash_of (plain_entry d).0
hash-at [] i d lt is = absurd (omega (arith, lt))
hash-at (e ∷ es) zero d lt is = ap (λ x. hash_of (plain_entry x).0) (sym is)
hash-at (e ∷ es) (suc i) d lt is = hash-at es i d (omega (arith, lt)) is

-- in no mapping of a value a key stands twice
abbrev pub IsDistinct : PlainValue → Type 0
IsDistinct k = is_distinct k ≡ true

hash-key : (k : PlainValue) (ps : PlainPairs) (j : ℕ) → IsDistinct k → is_key_at k j ps ≡ true
    → get_or (key_hashes ps) j 0 ≡ hash_of k
hash-key k no_pairs j s e = absurd (true≢false (sym e))
hash-key k (pair l w ps) zero s e = sym (same_hash k l s e)
hash-key k (pair l w ps) (suc j) s e = hash-key k ps j s e

count-hashes : (ps : PlainPairs) → length (key_hashes ps) ≡ pair_count ps
count-hashes no_pairs = refl
count-hashes (pair k v ps) = omega (arith, count-hashes ps)

hashes-more : (ps : PlainPairs) (k v : PlainValue) → key_hashes (with_last ps k v) ≡ key_hashes ps ++ hash_of k ∷ []
hashes-more no_pairs k v = refl
hashes-more (pair l w ps) k v = ap (λ hs. hash_of l ∷ hs) (hashes-more ps k v)

pub hashes-with_value : (i : ℕ) (v : PlainValue) (ps : PlainPairs) → key_hashes (with_value i v ps) ≡ key_hashes ps
hashes-with_value i v no_pairs = refl
hashes-with_value zero v (pair l w ps) = refl
hashes-with_value (suc i) v (pair l w ps) = ap (λ hs. hash_of l ∷ hs) (hashes-with_value i v ps)

-- ---- where a key can be
-- the chain of each key, among so many
abbrev pub key_chain : ℕ → PlainPairs → ℕ → ℕ
key_chain size ps = chain_at size (key_hashes ps)

-- no pair from this place on has this key
abbrev pub IsAbsentFrom : PlainValue → PlainPairs → ℕ → Type 0
IsAbsentFrom k ps i = (j : ℕ) → i ≤ j → is_key_at k j ps ≡ false

key_beyond : (k : PlainValue) (ps : PlainPairs) (j : ℕ) → pair_count ps ≤ j → is_key_at k j ps ≡ false
key_beyond k no_pairs j le = refl
key_beyond k (pair l w ps) zero le = absurd (omega (arith, le))
key_beyond k (pair l w ps) (suc j) le = key_beyond k ps j (omega (arith, le))

other_by : (b : Bool) (size : ℕ) (k : PlainValue) (ps : PlainPairs) (j : ℕ) → is_key_at k j ps ≡ b → IsDistinct k
    → (key_chain size ps j == hash_of k % size) ≡ false → b ≡ false
other_by true size k ps j is s n =
    absurd (true≢false (sym ((Decides-eqb (key_chain size ps j) (hash_of k % size)).1
    (ap (λ h. h % size) (hash-key k ps j s is))) ∙ n))
other_by false size k ps j is s n = refl

-- a key isn't in a chain that isn't its own
other_chain : (size : ℕ) (k : PlainValue) (ps : PlainPairs) (j : ℕ) → IsDistinct k
    → (key_chain size ps j == hash_of k % size) ≡ false → is_key_at k j ps ≡ false
other_chain size k ps j s n = other_by (is_key_at k j ps) size k ps j refl s n

-- this is left of a key's chain, and the key isn't behind it
abbrev pub IsSought : ℕ → PlainValue → PlainPairs → ℕ → Type 0
IsSought size k ps left =
    IsLeft (key_chain size ps) (hash_of k % size) left × (left ≤ pair_count ps) × IsAbsentFrom k ps left

behind_by : (size : ℕ) (k : PlainValue) (ps : PlainPairs) (from n j : ℕ) → IsDistinct k → from ≤ j → (j < n) ⊎ (n ≤ j)
    → ((i : ℕ) → from ≤ i → i < n → (key_chain size ps i == hash_of k % size) ≡ false) → IsAbsentFrom k ps n
    → is_key_at k j ps ≡ false
behind_by size k ps from n j s le (inl lt) gap absent = other_chain size k ps j s (gap j le lt)
behind_by size k ps from n j s le (inr beyond) gap absent = absent j beyond

-- so it is with the whole chain
pub sought-end : (k : PlainValue) (es : List Entry) → IsDistinct k
    → IsSought (chain_count (length es)) k (entry_pairs es) (chain_end (hash_of k) es)
sought-end k es s =
    let size = chain_count (length es) in
    let ps = entry_pairs es in
    let n = length es in
    let c = hash_of k % size in
    let le = last_before-le (key_chain size ps) n c in
    let count = pair_count-entries es in (
      left-last (key_chain size ps) n c,
      omega (arith, le, count),
      λ j from.
          behind_by size k ps (chain_end (hash_of k) es) n j s from (cases_lt j n) (gap-last (key_chain size ps) n c)
          (λ i beyond. key_beyond k ps i (omega (arith, beyond, count))),
    )

pub chain_end-le : (hash : ℕ) (es : List Entry) → chain_end hash es ≤ length es
chain_end-le hash es =
    last_before-le (key_chain (chain_count (length es)) (entry_pairs es)) (length es) (hash % chain_count (length es))

here_or_behind : (k : PlainValue) (ps : PlainPairs) (i j : ℕ) → (i ≡ j) ⊎ (i < j) → is_key_at k i ps ≡ false
    → IsAbsentFrom k ps (suc i) → is_key_at k j ps ≡ false
here_or_behind k ps i j (inl is) here behind = ap (λ n. is_key_at k n ps) (sym is) ∙ here
here_or_behind k ps i j (inr less) here behind = behind j (omega (arith, less))

-- where the last place of what is left has another key, the place before it in its chain is where to go on
pub sought-next : (size left : ℕ) (k : PlainValue) (es : List Entry) → IsDistinct k → 0 < left → left ≤ length es
    → IsChained size (length es) es → is_key_at k (left - 1) (entry_pairs es) ≡ false
    → IsSought size k (entry_pairs es) left
    → IsSought size k (entry_pairs es) (get_or (earliers_of es) (left - 1) 0)
    × (get_or (earliers_of es) (left - 1) 0 < left)
sought-next size zero k es s some le chained here sought = absurd (omega (arith, some))
sought-next size (suc i) k es s some le chained here sought =
    let ps = entry_pairs es in
    let chain = key_chain size ps in
    let c = hash_of k % size in
    let in_chain : chain i ≡ c = (Decides-eqb (chain i) c).0 (chain-left chain i c sought.0) in
    let at : suc i - 1 ≡ i = omega arith in
    let last : last_before chain i c ≡ get_or (earliers_of es) (suc i - 1) 0 =
    sym (ap (last_before chain i) in_chain)
    ∙ (sym (chained.1 i (omega (arith, le))) ∙ ap (λ n. get_or (earliers_of es) n 0) (sym at)) in
    let other : is_key_at k i ps ≡ false = ap (λ n. is_key_at k n ps) (sym at) ∙ here in
    let absent : IsAbsentFrom k ps i = λ j from.
    here_or_behind k ps i j (eq-or-lt_of_le {n = i} {m = j} from) other sought.2 in
    subst (λ n. IsSought size k ps n × (n < suc i)) last (
      (
        left-last chain i c,
        omega (arith, sought.1, last_before-le chain i c),
        λ j from.
            behind_by size k ps (last_before chain i c) i j s from (cases_lt j i) (gap-last chain i c) absent,
      ),
      omega (arith, last_before-le chain i c),
    )

none_by : (b : Bool) (o : Option ℕ) → b ≡ false → o ≡ None → (if b then Some 0 else option_map suc o) ≡ None
none_by true o e n = absurd (true≢false e)
none_by false o e n = ap (option_map suc) n

-- a key that no pair has is at no place
pub place-absent : (k : PlainValue) (ps : PlainPairs) → IsAbsentFrom k ps 0 → place_where (plain_eq k) ps ≡ None
place-absent k no_pairs absent = refl
place-absent k (pair l w ps) absent =
    none_by (plain_eq k l) (place_where (plain_eq k) ps) (absent 0 (omega arith))
    (place-absent k ps (λ j le. absent (suc j) (omega arith)))

-- ---- keys are distinct
-- a key that is equal to one that stands in a place stands in a pair
has_key_there : (l k : PlainValue) (ps : PlainPairs) (i : ℕ) → plain_eq l k ≡ true → is_key_at k i ps ≡ true
    → has_key l ps ≡ true
has_key_there l k no_pairs i e at = absurd (true≢false (sym at))
has_key_there l k (pair m u ps) zero e at = ap (λ b. b || has_key l ps) (plain_eq-trans l k m e at)
has_key_there l k (pair m u ps) (suc i) e at = or_true (plain_eq l m) (has_key l ps) (has_key_there l k ps i e at)
  where
    or_true : (a b : Bool) → b ≡ true → (a || b) ≡ true
    or_true true b h = refl
    or_true false b h = h

found_by : (b : Bool) (k l w : PlainValue) (ps : PlainPairs) (i : ℕ) → plain_eq k l ≡ b → IsDistinct k
    → has_key l ps ≡ false → is_key_at k i ps ≡ true → place_where (plain_eq k) ps ≡ Some i
    → (if b then Some 0 else option_map suc (place_where (plain_eq k) ps)) ≡ Some (suc i)
found_by true k l w ps i is s none e at =
    absurd (true≢false (sym (has_key_there l k ps i (plain_eq-symm k l s is) e) ∙ none))
found_by false k l w ps i is s none e at = ap (option_map suc) at

-- where keys are distinct, one that stands in a place stands in none before
pub place-found : (k : PlainValue) (ps : PlainPairs) (i : ℕ) → IsDistinct k → keys_distinct ps ≡ true
    → is_key_at k i ps ≡ true → place_where (plain_eq k) ps ≡ Some i
place-found k no_pairs i s d e = absurd (true≢false (sym e))
place-found k (pair l w ps) zero s d e =
    ap (λ b. if b then Some 0 else option_map suc (place_where (plain_eq k) ps)) e
place-found k (pair l w ps) (suc i) s d e =
    found_by (plain_eq k l) k l w ps i refl s (not_true (has_key l ps) (and_left _ _ d)) e
    (place-found k ps i s (and_right (not (has_key l ps)) _ d) e)

-- ---- pairs that change
has_key-with_value : (k v : PlainValue) (i : ℕ) (ps : PlainPairs) → has_key k (with_value i v ps) ≡ has_key k ps
has_key-with_value k v i no_pairs = refl
has_key-with_value k v zero (pair l w ps) = refl
has_key-with_value k v (suc i) (pair l w ps) = ap (λ b. plain_eq k l || b) (has_key-with_value k v i ps)

pub distinct-with_value : (v : PlainValue) (i : ℕ) (ps : PlainPairs)
    → keys_distinct (with_value i v ps) ≡ keys_distinct ps
distinct-with_value v i no_pairs = refl
distinct-with_value v zero (pair l w ps) = refl
distinct-with_value v (suc i) (pair l w ps) =
    λ j. not (has_key-with_value l v i ps j) && distinct-with_value v i ps j

none-without_place : (k : PlainValue) (i : ℕ) (ps : PlainPairs) → has_key k ps ≡ false
    → has_key k (without_place i ps) ≡ false
none-without_place k i no_pairs n = refl
none-without_place k zero (pair l w ps) n = or_right (plain_eq k l) (has_key k ps) n
none-without_place k (suc i) (pair l w ps) n =
    (λ j. or_left (plain_eq k l) (has_key k ps) n j
    || none-without_place k i ps (or_right (plain_eq k l) (has_key k ps) n) j)

pub distinct-without_place : (i : ℕ) (ps : PlainPairs) → keys_distinct ps ≡ true
    → keys_distinct (without_place i ps) ≡ true
distinct-without_place i no_pairs d = refl
distinct-without_place zero (pair l w ps) d = and_right (not (has_key l ps)) _ d
distinct-without_place (suc i) (pair l w ps) d =
    and_from _ _ (ap not (none-without_place l i ps (not_true (has_key l ps) (and_left _ _ d))))
    (distinct-without_place i ps (and_right (not (has_key l ps)) _ d))

first_other : (b : Bool) (o : Option ℕ) → (if b then Some 0 else option_map suc o) ≡ None → b ≡ false
first_other true o e = absurd (cc)
first_other false o e = refl

others_none : (b : Bool) (o : Option ℕ) → (if b then Some 0 else option_map suc o) ≡ None → o ≡ None
others_none true o e = absurd (cc)
others_none false None e = refl
others_none false (Some i) e = absurd (cc)

none-with_last : (l k v : PlainValue) (ps : PlainPairs) → has_key l ps ≡ false → plain_eq l k ≡ false
    → has_key l (with_last ps k v) ≡ false
none-with_last l k v no_pairs n other = ap (λ b. b || false) other
none-with_last l k v (pair m w ps) n other =
    (λ j. or_left (plain_eq l m) (has_key l ps) n j
    || none-with_last l k v ps (or_right (plain_eq l m) (has_key l ps) n) other j)

turned : (b : Bool) (k l : PlainValue) → IsDistinct l → plain_eq k l ≡ false → plain_eq l k ≡ b → b ≡ false
turned true k l s n is = absurd (true≢false (sym (plain_eq-symm l k s is) ∙ n))
turned false k l s n is = refl

-- with one more pair at the end, whose key is not there
pub distinct-with_last : (k v : PlainValue) (ps : PlainPairs) → keys_distinct ps ≡ true → are_pairs_distinct ps ≡ true
    → place_where (plain_eq k) ps ≡ None → keys_distinct (with_last ps k v) ≡ true
distinct-with_last k v no_pairs d h new = refl
distinct-with_last k v (pair l w ps) d h new =
    let differs = first_other (plain_eq k l) (place_where (plain_eq k) ps) new in
    let other : plain_eq l k ≡ false = turned (plain_eq l k) k l (and_left _ _ h) differs refl in
    and_from _ _ (ap not (none-with_last l k v ps (not_true (has_key l ps) (and_left _ _ d)) other))
    (distinct-with_last k v ps (and_right (not (has_key l ps)) _ d)
    (and_right (is_distinct w) _ (and_right (is_distinct l) _ h))
    (others_none (plain_eq k l) (place_where (plain_eq k) ps) new))

-- ---- entries that change
-- the next entry behind its chain's last one
pub chained-next : (size h c e i : ℕ) (es new : List Entry) → 0 < size → size ≤ length es → i < length es
    → h ≡ get_or (key_hashes (entry_pairs es)) i 0 → c ≡ h % size → e ≡ get_or (lasts_of es) c 0
    → entry_pairs new ≡ entry_pairs es → lasts_of new ≡ set (lasts_of es) c (i + 1)
    → earliers_of new ≡ set (earliers_of es) i e → IsChained size i es → IsChained size (i + 1) new
chained-next size h c e i es new some le lt hash chain last pairs lasts earliers before =
    let hashes = key_hashes (entry_pairs es) in
    let at : chain_at size hashes i ≡ c = sym (chain ∙ ap (λ x. x % size) hash) in
    let next = chains-next size i (lasts_of es) (earliers_of es) hashes some
    (omega (arith, le, length-map es (λ x. x.last)))
    (omega (arith, lt, length-map es (λ x. x.earlier))) before in
    let lasts_are : set (lasts_of es) (chain_at size hashes i) (i + 1) ≡ lasts_of new =
    ap (λ n. set (lasts_of es) n (i + 1)) at ∙ sym lasts in
    let earliers_are : set (earliers_of es) i (get_or (lasts_of es) (chain_at size hashes i) 0) ≡ earliers_of new =
    ap (λ n. set (earliers_of es) i (get_or (lasts_of es) n 0)) at
    ∙ (ap (set (earliers_of es) i) (sym last) ∙ sym earliers) in
    subst (λ hs. AreChains size (i + 1) (lasts_of new) (earliers_of new) hs) (ap key_hashes (sym pairs))
    (subst (λ xs. AreChains size (i + 1) (lasts_of new) xs hashes) earliers_are
    (subst (λ xs. AreChains size (i + 1) xs (set (earliers_of es) i (get_or (lasts_of es) (chain_at size hashes i) 0))
    hashes) lasts_are next))

-- so many first chains are empty
abbrev pub AreEmpty : ℕ → List ℕ → Type 0
AreEmpty n xs = (c : ℕ) → c < n → get_or xs c 0 ≡ 0

empty_at : (n c : ℕ) (xs : List ℕ) → n < length xs → (c ≡ n) ⊎ (c < n) → AreEmpty n xs → get_or (set xs n 0) c 0 ≡ 0
empty_at n c xs lt (inl is) before = ap (λ m. get_or (set xs n 0) m 0) is ∙ get_or-set_same xs n 0 0 lt
empty_at n c xs lt (inr less) before = get_or-set_other xs n c 0 0 (λ e. omega (arith, e, less)) ∙ before c less

-- the next chain is emptied
pub emptied : (n : ℕ) (es new : List Entry) → n < length es → lasts_of new ≡ set (lasts_of es) n 0
    → AreEmpty n (lasts_of es) → AreEmpty (n + 1) (lasts_of new)
emptied n es new lt is before =
    subst (AreEmpty (n + 1)) (sym is) (λ c less.
    empty_at n c (lasts_of es) (omega (arith, lt, length-map es (λ x. x.last)))
    (eq-or-lt_of_le {n = c} {m = n} (omega (arith, less))) before)

-- with one more entry at the end, the others are in their chains as before
pub indexed-more : (n : ℕ) (es : List Entry) (e : Entry) → length es ≡ n → IsIndexed es → IsIndexedTo n (es ++ e ∷ [])
indexed-more n es e is indexed some =
    let to : IsIndexedTo n es = subst (λ m. IsIndexedTo m es) is indexed in
    let chained = to some in
    let size = chain_count n in
    let hashes = key_hashes (entry_pairs es) in
    let more : key_hashes (entry_pairs (es ++ e ∷ [])) ≡ hashes ++ hash_of (plain_entry e).0 ∷ [] =
    ap key_hashes (entry_pairs-push es e) ∙ hashes-more (entry_pairs es) (plain_entry e).0 (plain_entry e).1 in
    let count : length hashes ≡ n = count-hashes (entry_pairs es) ∙ (pair_count-entries es ∙ is) in
    let all = chains-more size n e.last e.earlier (hash_of (plain_entry e).0)
    (lasts_of es) (earliers_of es) hashes chained.0
    (length-map es (λ x. x.last) ∙ is) (length-map es (λ x. x.earlier) ∙ is) count
    chained.1 in (
      chained.0,
      subst (λ hs. AreChains size n (lasts_of (es ++ e ∷ [])) (earliers_of (es ++ e ∷ [])) hs) (sym more)
          (subst (λ xs. AreChains size n (lasts_of (es ++ e ∷ [])) xs (hashes ++ hash_of (plain_entry e).0 ∷ []))
          (sym (map_push (λ x. x.earlier) es e))
          (subst (λ xs. AreChains size n xs (earliers_of es ++ e.earlier ∷ [])
          (hashes ++ hash_of (plain_entry e).0 ∷ [])) (sym (map_push (λ x. x.last) es e)) all)),
    )

-- so it is with entries that have one more, however they were made
pub indexed-pushed : (n : ℕ) (es new : List Entry) (e : Entry) → new ≡ es ++ e ∷ [] → IsIndexed es
    → n + 1 ≡ length new → IsIndexedTo n new
indexed-pushed n es new e pushed indexed len =
    let more : length new ≡ length es + 1 = ap length pushed ∙ length-append es (e ∷ []) in
    subst (IsIndexedTo n) (sym pushed) (indexed-more n es e (omega (arith, len, more)) indexed)

-- what entries keep for the index, and the hashes of their keys
abbrev pub SameIndex : List Entry → List Entry → Type 0
SameIndex es fs =
    (length es ≡ length fs) × (lasts_of es ≡ lasts_of fs) × (earliers_of es ≡ earliers_of fs)
    × (key_hashes (entry_pairs es) ≡ key_hashes (entry_pairs fs))

-- entries that keep the same, with keys of the same hashes, are in their chains as the others are
pub indexed-alike : (es fs : List Entry) → SameIndex es fs → IsIndexed es → IsIndexed fs
indexed-alike es fs same indexed some =
    let n = same.0 in
    let before = indexed (subst (λ m. 0 < chain_count m) (sym n) some) in (
      subst (λ m. chain_count m ≤ m) n before.0,
      subst (λ hs. AreChains (chain_count (length fs)) (length fs) (lasts_of fs) (earliers_of fs) hs) same.3
          (subst (λ xs. AreChains (chain_count (length fs)) (length fs) (lasts_of fs) xs (key_hashes (entry_pairs es)))
          same.2
          (subst (λ xs. AreChains (chain_count (length fs)) (length fs) xs (earliers_of es)
          (key_hashes (entry_pairs es))) same.1
          (subst (λ m. AreChains (chain_count m) m (lasts_of es) (earliers_of es) (key_hashes (entry_pairs es))) n
          before.1))),
    )

-- the same pairs, and the same that is kept for the index
abbrev pub SameEntries : List Entry → List Entry → Type 0
SameEntries es fs =
    (entry_pairs es ≡ entry_pairs fs) × (lasts_of es ≡ lasts_of fs) × (earliers_of es ≡ earliers_of fs)

-- such entries are sound where the others are
pub sound-copies : (es fs : List Entry) → SameEntries fs es → IsSound es → IsSound fs
sound-copies es fs same sound =
    let len = sym (length-map es (λ e. e.last)) ∙ (ap length (sym same.1) ∙ length-map fs (λ e. e.last)) in (
      indexed-alike es fs (len, sym same.1, sym same.2, ap key_hashes (sym same.0)) sound.0,
      ap keys_distinct same.0 ∙ sound.1,
    )

-- entries are sound with another value in one of them
pub sound-put : (es : List Entry) (i : ℕ) (e d : Entry) → d ≡ get_or es i d → (plain_entry e).0 ≡ (plain_entry d).0
    → e.last ≡ d.last → e.earlier ≡ d.earlier → IsSound es → IsSound (set es i e)
sound-put es i e d is key last earlier sound =
    let same : plain_entry e ≡ ((plain_entry (get_or es i d)).0, (plain_entry e).1) =
    λ j. ((key ∙ ap (λ x. (plain_entry x).0) is) j, (plain_entry e).1) in
    let put = entry_pairs-put es i e d (plain_entry e).1 same in (
      indexed-alike es (set es i e) (
        sym (length-set es i e),
        sym (map-set_same (λ x. x.last) es i e d (last ∙ ap (λ x. x.last) is)),
        sym (map-set_same (λ x. x.earlier) es i e d (earlier ∙ ap (λ x. x.earlier) is)),
        sym (ap key_hashes put ∙ hashes-with_value i (plain_entry e).1 (entry_pairs es)),
      ) sound.0,
      ap keys_distinct put ∙ (distinct-with_value (plain_entry e).1 i (entry_pairs es) ∙ sound.1),
    )

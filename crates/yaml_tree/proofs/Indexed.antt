-- What the index of entries says: where a key can be, and what stays when entries change.
use Rattle.std.specs.Prelude.{◌≡◌, ℕ, zero, suc, ◌+◌, ◌<◌, ◌≤◌, ◌==◌, ◌%◌, ◌++◌, ◌∷◌, [], List, length, refl}
use Rattle.std.specs.Prelude.{◌-◌, Bool, true, false, Some, None, option_map, if◌then◌else◌, ◌⊎◌}
use Rattle.std.proofs.Common.{ap, arith, sym, ◌∙◌, get_or, set, subst, true≢false, inl, inr, eq-or-lt_of_le}
use Rattle.std.proofs.Math.Seq.{map-set_same}
use Rattle.std.proofs.lemmas.Bool.{cases_lt}
use Rattle.std.proofs.lemmas.Bool.Decides.{Decides-eqb}
use Rattle.std.proofs.lemmas.Nat.{mod_below}
use Rattle.std.proofs.lemmas.List.{get_or_default, get_or-map, get_or-set_same, get_or-set_other}
use Rattle.std.proofs.lemmas.List.{length-append, length-map, length-set, map-set, map_push}
use Rattle.yaml_tree.specs.Entries.{IsOtherKey, with_value, with_last_place, with_earlier}
use Rattle.yaml_tree.specs.Equal.{tree_eq}
use Rattle.yaml_tree.specs.Hash.{hash_of}
use Rattle.yaml_tree.specs.Index.{last_before, chain_at, AreChains, lasts_of, earliers_of, hashes_of, IsChained}
use Rattle.yaml_tree.specs.Index.{IsIndexedTo, IsIndexed, chain_count}
use Rattle.yaml_tree.specs.Lookup.{place_of_key}
use Rattle.yaml_tree.specs.Tree.{Tree, pair}
use Rattle.yaml_tree.specs.View.{tree_of, entry_pairs}
use Rattle.yaml_tree.specs.declared.mapping.Entry.{Entry}
use Rattle.yaml_tree.specs.declared.value.Value.{Value}
use Rattle.yaml_tree.proofs.Chains.{IsLeft, IsGap, left-last, last_before-le, gap-last, chain-left}
use Rattle.yaml_tree.proofs.Chains.{chains-next, chains-more}
use Rattle.yaml_tree.proofs.Hashes.{hash_of-equal}

-- ---- where a key can be
-- no entry from this place on has this key
abbrev pub IsAbsentFrom : Tree → List Entry → ℕ → Type 0
IsAbsentFrom k es i = (j : ℕ) (d : Entry) → i ≤ j → j < length es → tree_eq k (tree_of (get_or es j d).key) ≡ false

-- the chain of each entry
abbrev pub entry_chain : ℕ → List Entry → ℕ → ℕ
entry_chain size es = chain_at size (hashes_of es)

other_by : (b : Bool) (size : ℕ) (k l : Tree) → tree_eq k l ≡ b → (hash_of l % size == hash_of k % size) ≡ false
    → b ≡ false
other_by true size k l e n =
    absurd (true≢false (sym ((Decides-eqb (hash_of l % size) (hash_of k % size)).1
    (ap (λ h. h % size) (sym (hash_of-equal k l e)))) ∙ n))
other_by false size k l e n = refl

-- a key isn't in a chain that isn't its own
pub other_chain : (size : ℕ) (k : Tree) (es : List Entry) (j : ℕ) (d : Entry) → j < length es
    → (entry_chain size es j == hash_of k % size) ≡ false → tree_eq k (tree_of (get_or es j d).key) ≡ false
other_chain size k es j d lt n =
    let l = tree_of (get_or es j d).key in
    let hash : get_or (hashes_of es) j 0 ≡ hash_of l =
    get_or-map (λ e. hash_of (tree_of e.key)) es j d 0 lt in
    other_by (tree_eq k l) size k l refl (ap (λ h. (h % size) == (hash_of k % size)) (sym hash) ∙ n)

-- this is left of a key's chain, and the key isn't behind it
abbrev pub IsSought : ℕ → Tree → List Entry → ℕ → Type 0
IsSought size k es left =
    IsLeft (entry_chain size es) (hash_of k % size) left × (left ≤ length es) × IsAbsentFrom k es left

-- so it is with the whole chain
pub sought-first : (size c : ℕ) (k : Tree) (es : List Entry) (d : Entry) → c ≡ hash_of k % size → c < size
    → size ≤ length es → IsChained size (length es) es → IsSought size k es (get_or es c d).last
sought-first size c k es d is lt le chained =
    let chain = entry_chain size es in
    let n = length es in
    let last : last_before chain n (hash_of k % size) ≡ (get_or es c d).last =
    ap (last_before chain n) (sym is)
    ∙ (sym (chained.0 c lt) ∙ get_or-map (λ e. e.last) es c d 0 (omega (arith, lt, le))) in
    subst (IsSought size k es) last (
      left-last chain n (hash_of k % size),
      last_before-le chain n (hash_of k % size),
      λ j e from less. other_chain size k es j e less (gap-last chain n (hash_of k % size) j from less),
    )

absent_at : (k : Tree) (es : List Entry) (i j : ℕ) (d : Entry) → j < length es → (i ≡ j) ⊎ (i < j)
    → tree_eq k (tree_of (get_or es i d).key) ≡ false → IsAbsentFrom k es (suc i)
    → tree_eq k (tree_of (get_or es j d).key) ≡ false
absent_at k es i j d lt (inl is) here behind = ap (λ n. tree_eq k (tree_of (get_or es n d).key)) (sym is) ∙ here
absent_at k es i j d lt (inr less) here behind = behind j d (omega (arith, less)) lt

-- no entry from this place on has the key, where the one here has not, nor those behind it
pub absent-here : (k : Tree) (es : List Entry) (i : ℕ) → ((d : Entry) → tree_eq k (tree_of (get_or es i d).key) ≡ false)
    → IsAbsentFrom k es (suc i) → IsAbsentFrom k es i
absent-here k es i here behind j d from lt =
    absent_at k es i j d lt (eq-or-lt_of_le {n = i} {m = j} from) (here d) behind

-- the entry at this place has another key, where it is the one that is known to
pub other_key_here : (k : Tree) (es : List Entry) (i other : ℕ) (d : Entry) → d ≡ get_or es i d → i ≡ other
    → i < length es → IsOtherKey k es other → tree_eq k (tree_of d.key) ≡ false
other_key_here k es i other d is same lt differs =
    ap (λ e. tree_eq k (tree_of e.key)) (is ∙ ap (λ n. get_or es n d) same)
    ∙ differs d (omega (arith, same, lt))

absent-before_at : (size : ℕ) (k : Tree) (es : List Entry) (i from j : ℕ) (d : Entry) → from ≤ j → j < length es
    → (j < i) ⊎ (i ≤ j) → IsGap (entry_chain size es) (hash_of k % size) from i → IsAbsentFrom k es i
    → tree_eq k (tree_of (get_or es j d).key) ≡ false
absent-before_at size k es i from j d le lt (inr behind) gap absent = absent j d behind lt
absent-before_at size k es i from j d le lt (inl before) gap absent = other_chain size k es j d lt (gap j le before)

-- where the last place of what is left has another key, the place before it in its chain is where to go on
pub sought-next : (size left : ℕ) (k : Tree) (es : List Entry) (d : Entry) → 0 < left
    → IsChained size (length es) es → d ≡ get_or es (left - 1) d → tree_eq k (tree_of d.key) ≡ false
    → IsSought size k es left → IsSought size k es d.earlier × (d.earlier < left)
sought-next size zero k es d some chained is here sought = absurd (omega (arith, some))
sought-next size (suc i) k es d some chained is here sought =
    let chain = entry_chain size es in
    let c = hash_of k % size in
    let less : i < length es = omega (arith, sought.1) in
    let at : suc i - 1 ≡ i = omega arith in
    let there : d ≡ get_or es i d = is ∙ ap (λ n. get_or es n d) at in
    let in_chain : chain i ≡ c = (Decides-eqb (chain i) c).0 (chain-left chain i c sought.0) in
    let last : last_before chain i c ≡ d.earlier =
    sym (ap (last_before chain i) in_chain)
    ∙ (sym (chained.1 i less) ∙ (get_or-map (λ e. e.earlier) es i d 0 less ∙ ap (λ e. e.earlier) (sym there))) in
    let absent : IsAbsentFrom k es i =
    absent-here k es i
    (λ e. ap (λ x. tree_eq k (tree_of x.key)) (get_or_default es i e d less ∙ sym there) ∙ here) sought.2 in
    subst (λ n. IsSought size k es n × (n < suc i)) last (
      (
        left-last chain i c,
        omega (arith, less, last_before-le chain i c),
        λ j e from lt.
            absent-before_at size k es i (last_before chain i c) j e from lt (cases_lt j i) (gap-last chain i c) absent,
      ),
      omega (arith, last_before-le chain i c),
    )

place_of_key-none_by : (b : Bool) (k : Tree) (e : Entry) (es : List Entry) → b ≡ false
    → place_of_key k (entry_pairs es) ≡ None
    → (if b then Some 0 else option_map suc (place_of_key k (entry_pairs es))) ≡ None
place_of_key-none_by true k e es n h = absurd (true≢false n)
place_of_key-none_by false k e es n h = ap (option_map suc) h

-- a key that no entry has is at no place
pub place_of_key-absent : (k : Tree) (es : List Entry) → IsAbsentFrom k es 0 → place_of_key k (entry_pairs es) ≡ None
place_of_key-absent k [] absent = refl
place_of_key-absent k (e ∷ es) absent =
    place_of_key-none_by (tree_eq k (tree_of e.key)) k e es (absent 0 e (omega arith) (omega arith))
    (place_of_key-absent k es (λ j d from lt. absent (suc j) d (omega arith) (omega (arith, lt))))

-- ---- what stays when entries change
-- with another place kept, the pairs are the same
pub entry_pairs-with_last_place : (es : List Entry) (i x : ℕ) (d : Entry)
    → entry_pairs (set es i (with_last_place (get_or es i d) x)) ≡ entry_pairs es
entry_pairs-with_last_place [] i x d = refl
entry_pairs-with_last_place (e ∷ es) zero x d = refl
entry_pairs-with_last_place (e ∷ es) (suc i) x d =
    ap (pair (tree_of e.key) (tree_of e.value)) (entry_pairs-with_last_place es i x d)

-- the same of the other place that is kept
pub entry_pairs-with_earlier : (es : List Entry) (i x : ℕ) (d : Entry)
    → entry_pairs (set es i (with_earlier (get_or es i d) x)) ≡ entry_pairs es
entry_pairs-with_earlier [] i x d = refl
entry_pairs-with_earlier (e ∷ es) zero x d = refl
entry_pairs-with_earlier (e ∷ es) (suc i) x d =
    ap (pair (tree_of e.key) (tree_of e.value)) (entry_pairs-with_earlier es i x d)

-- entries once the one at a place is in its chain
abbrev pub with_chained : ℕ → ℕ → List Entry → Entry → List Entry
with_chained c i es d =
    let last = (get_or es c d).last in
    let first = set es c (with_last_place (get_or es c d) (i + 1)) in
    set first i (with_earlier (get_or first i d) last)

-- then they are in their chains up to the next place
pub chained-next : (size c i : ℕ) (es : List Entry) (d e : Entry) → 0 < size → size ≤ length es → i < length es
    → c ≡ hash_of (tree_of (get_or es i e).key) % size → IsChained size i es
    → IsChained size (i + 1) (with_chained c i es d)
chained-next size c i es d e some le lt is before =
    let keep : Entry → ℕ = λ e. hash_of (tree_of e.key) in
    let first = set es c (with_last_place (get_or es c d) (i + 1)) in
    let last = (get_or es c d).last in
    let new = with_earlier (get_or first i d) last in
    let c_is : c ≡ entry_chain size es i = is ∙ ap (λ h. h % size) (sym (get_or-map keep es i e 0 lt)) in
    let c_less : c < length es = omega (arith, le, mod_below (keep (get_or es i e)) size some, is) in
    let lasts : set (lasts_of es) (entry_chain size es i) (i + 1) ≡ lasts_of (set first i new) =
    ap (λ n. set (lasts_of es) n (i + 1)) (sym c_is)
    ∙ (sym (map-set (λ e. e.last) es c (with_last_place (get_or es c d) (i + 1)))
    ∙ sym (map-set_same (λ e. e.last) first i new d refl)) in
    let earliers : set (earliers_of es) i (get_or (lasts_of es) (entry_chain size es i) 0)
    ≡ earliers_of (set first i new) =
    ap (λ n. set (earliers_of es) i (get_or (lasts_of es) n 0)) (sym c_is)
    ∙ (ap (set (earliers_of es) i) (get_or-map (λ e. e.last) es c d 0 c_less)
    ∙ (ap (λ xs. set xs i last)
    (sym (map-set_same (λ e. e.earlier) es c (with_last_place (get_or es c d) (i + 1)) d refl))
    ∙ sym (map-set (λ e. e.earlier) first i new))) in
    let hashes : hashes_of es ≡ hashes_of (set first i new) =
    sym (map-set_same keep es c (with_last_place (get_or es c d) (i + 1)) d refl)
    ∙ sym (map-set_same keep first i new d refl) in
    let next = chains-next size i (lasts_of es) (earliers_of es) (hashes_of es) some
    (omega (arith, le, length-map es (λ e. e.last))) (omega (arith, lt, length-map es (λ e. e.earlier))) before in
    subst (λ hs. AreChains size (i + 1) (lasts_of (set first i new)) (earliers_of (set first i new)) hs) hashes
    (subst (λ xs. AreChains size (i + 1) (lasts_of (set first i new)) xs (hashes_of es)) earliers
    (subst (λ xs. AreChains size (i + 1) xs (set (earliers_of es) i (get_or (lasts_of es) (entry_chain size es i) 0))
    (hashes_of es)) lasts next))

-- with one more entry at the end, the others are in their chains as before
pub indexed-more : (n : ℕ) (es : List Entry) (e : Entry) → length es ≡ n → IsIndexed es → IsIndexedTo n (es ++ e ∷ [])
indexed-more n es e is indexed some =
    let to : IsIndexedTo n es = subst (λ m. IsIndexedTo m es) is indexed in
    let chained = to some in
    let size = chain_count n in
    let keep : Entry → ℕ = λ x. hash_of (tree_of x.key) in
    let all = chains-more size n e.last e.earlier (keep e) (lasts_of es) (earliers_of es) (hashes_of es) chained.0
    (length-map es (λ x. x.last) ∙ is) (length-map es (λ x. x.earlier) ∙ is) (length-map es keep ∙ is) chained.1 in (
      chained.0,
      subst (λ hs. AreChains size n (lasts_of (es ++ e ∷ [])) (earliers_of (es ++ e ∷ [])) hs)
          (sym (map_push keep es e))
          (subst (λ xs. AreChains size n (lasts_of (es ++ e ∷ [])) xs (hashes_of es ++ keep e ∷ []))
          (sym (map_push (λ x. x.earlier) es e))
          (subst (λ xs. AreChains size n xs (earliers_of es ++ e.earlier ∷ []) (hashes_of es ++ keep e ∷ []))
          (sym (map_push (λ x. x.last) es e)) all)),
    )

-- so it is with entries that have one more, however they were made
pub indexed-pushed : (n : ℕ) (es new : List Entry) (e : Entry) → new ≡ es ++ e ∷ [] → IsIndexed es
    → n + 1 ≡ length new → IsIndexedTo n new
indexed-pushed n es new e pushed indexed len =
    let more : length new ≡ length es + 1 = ap length pushed ∙ length-append es (e ∷ []) in
    subst (IsIndexedTo n) (sym pushed) (indexed-more n es e (omega (arith, len, more)) indexed)

-- ---- chains that are emptied
-- so many first chains are empty
abbrev pub AreEmpty : ℕ → List Entry → Type 0
AreEmpty n es = (c : ℕ) → c < n → get_or (lasts_of es) c 0 ≡ 0

empty_at : (n c : ℕ) (es : List Entry) (d : Entry) → n < length es → (c ≡ n) ⊎ (c < n) → AreEmpty n es
    → get_or (set (lasts_of es) n 0) c 0 ≡ 0
empty_at n c es d lt (inl is) before =
    ap (λ m. get_or (set (lasts_of es) n 0) m 0) is
    ∙ get_or-set_same (lasts_of es) n 0 0 (omega (arith, lt, length-map es (λ e. e.last)))
empty_at n c es d lt (inr less) before =
    get_or-set_other (lasts_of es) n c 0 0 (λ e. omega (arith, e, less)) ∙ before c less

-- what stays when one chain is emptied, and which chains are empty then
abbrev pub Emptied : ℕ → List Entry → List Entry → Type 0
Emptied n es new =
    AreEmpty (n + 1) new × (entry_pairs new ≡ entry_pairs es) × (length new ≡ length es)

emptied_at : (n : ℕ) (es : List Entry) (d : Entry) → n < length es → AreEmpty n es
    → Emptied n es (set es n (with_last_place (get_or es n d) 0))
emptied_at n es d lt before = (
  λ c less.
      ap (λ xs. get_or xs c 0) (map-set (λ e. e.last) es n (with_last_place (get_or es n d) 0))
      ∙ empty_at n c es d lt (eq-or-lt_of_le {n = c} {m = n} (omega (arith, less))) before,
  entry_pairs-with_last_place es n 0 d,
  length-set es n (with_last_place (get_or es n d) 0),
)

-- the next chain is emptied
pub emptied : (n : ℕ) (es new : List Entry) → n < length es
    → ((d : Entry) → new ≡ set es n (with_last_place (get_or es n d) 0)) → AreEmpty n es → Emptied n es new
emptied n [] new lt is before = absurd (omega (arith, lt))
emptied n (e ∷ es) new lt is before =
    subst (Emptied n (e ∷ es)) (sym (is e)) (emptied_at n (e ∷ es) e lt before)

-- what entries keep for the index, and the hashes of their keys
abbrev SameIndex : List Entry → List Entry → Type 0
SameIndex es fs =
    (length es ≡ length fs) × (lasts_of es ≡ lasts_of fs) × (earliers_of es ≡ earliers_of fs)
    × (hashes_of es ≡ hashes_of fs)

-- entries that keep the same, with keys of the same hashes, are in their chains as the others are
pub indexed-alike : (es fs : List Entry) → SameIndex es fs → IsIndexed es → IsIndexed fs
indexed-alike es fs same indexed some =
    let n = same.0 in
    let before = indexed (subst (λ m. 0 < chain_count m) (sym n) some) in (
      subst (λ m. chain_count m ≤ m) n before.0,
      subst (λ hs. AreChains (chain_count (length fs)) (length fs) (lasts_of fs) (earliers_of fs) hs) same.3
          (subst (λ xs. AreChains (chain_count (length fs)) (length fs) (lasts_of fs) xs (hashes_of es)) same.2
          (subst (λ xs. AreChains (chain_count (length fs)) (length fs) xs (earliers_of es) (hashes_of es)) same.1
          (subst (λ m. AreChains (chain_count m) m (lasts_of es) (earliers_of es) (hashes_of es)) n before.1))),
    )

-- with another value at a place, entries are in their chains as before
pub indexed-with_value : (es : List Entry) (i : ℕ) (d : Entry) (v : Value) → IsIndexed es
    → IsIndexed (set es i (with_value (get_or es i d) v))
indexed-with_value es i d v indexed =
    let new = with_value (get_or es i d) v in
    indexed-alike es (set es i new) (
      sym (length-set es i new),
      sym (map-set_same (λ e. e.last) es i new d refl),
      sym (map-set_same (λ e. e.earlier) es i new d refl),
      sym (map-set_same (λ e. hash_of (tree_of e.key)) es i new d refl),
    ) indexed

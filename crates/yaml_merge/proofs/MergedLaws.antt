-- Merged trees, pair by pair.
use Rattle.std.proofs.Common.{◌≡◌, Bool, true, false, ◌||◌, if◌then◌else◌, Option, Some, None, is_some, refl, sym}
use Rattle.std.proofs.Common.{ap, ap₂, ◌∙◌, List, [], ◌∷◌, ◌++◌}
use Rattle.yaml_base.specs.DocTree.{DocNode, nothing, reference, word, list, mapping, DocNodes, no_nodes, node}
use Rattle.yaml_base.specs.DocTree.{DocPairs, no_pairs, pair}
use Rattle.yaml_merge.specs.MergedTree.{IsEquivalence, Sameness, applied, are_merging, each_stand_once, first_of}
use Rattle.yaml_merge.specs.MergedTree.{first_value_at, given_mappings, has_merge_key, have_merge_keys, is_merge_key}
use Rattle.yaml_merge.specs.MergedTree.{joined, merged, merged_nodes, merged_pairs, missing, own_pairs, stand_once}
use Rattle.yaml_merge.specs.MergedTree.{value_at, with_each, with_missing}

-- ---- trees without merge keys
pub left_false : (a b : Bool) → (a || b) ≡ false → a ≡ false
left_false false b h = refl
left_false true b h = h

pub right_false : (a b : Bool) → (a || b) ≡ false → b ≡ false
right_false false b h = h
right_false true b h = absurd cc

own_stay : (b : Bool) (k v : DocNode) (ps : DocPairs) → b ≡ false → own_pairs ps ≡ ps
    → (if b then own_pairs ps else pair k v (own_pairs ps)) ≡ pair k v ps
own_stay false k v ps h same = ap (pair k v) same
own_stay true k v ps h same = absurd cc

none_given : (b : Bool) (given more : List DocPairs) → b ≡ false → given ≡ []
    → (if b then more ++ given else given) ≡ []
none_given false given more h none = none
none_given true given more h none = absurd cc

pub all_own : (ps : DocPairs) → are_merging ps ≡ false → own_pairs ps ≡ ps
all_own no_pairs h = refl
all_own (pair k v ps) h =
    let rest = right_false (is_merge_key k) _ h in
    own_stay (is_merge_key k) k v ps (left_false (is_merge_key k) _ h)
    (all_own ps (right_false (has_merge_key v) _ (right_false (has_merge_key k) _ rest)))

pub no_given : (ps : DocPairs) → are_merging ps ≡ false → given_mappings ps ≡ []
no_given no_pairs h = refl
no_given (pair k v ps) h =
    let rest = right_false (is_merge_key k) _ h in
    none_given (is_merge_key k) (given_mappings ps) _ (left_false (is_merge_key k) _ h)
    (no_given ps (right_false (has_merge_key v) _ (right_false (has_merge_key k) _ rest)))

pub applied_stays : (same : Sameness) (ps : DocPairs) → are_merging ps ≡ false → applied same ps ≡ ps
applied_stays same ps h = ap (with_each same (own_pairs ps)) (no_given ps h) ∙ all_own ps h

mutual
  pub stays : (same : Sameness) (t : DocNode) → has_merge_key t ≡ false → merged same t ≡ t
  stays same nothing h = refl
  stays same (reference target) h = refl
  stays same (word s) h = refl
  stays same (list tag nodes) h = ap (list tag) (nodes_stay same nodes h)
  stays same (mapping tag ps) h =
      ap (mapping tag) (ap (applied same) (pairs_stay same ps h) ∙ applied_stays same ps h)

  nodes_stay : (same : Sameness) (nodes : DocNodes) → have_merge_keys nodes ≡ false → merged_nodes same nodes ≡ nodes
  nodes_stay same no_nodes h = refl
  nodes_stay same (node n nodes) h =
      ap₂ node (stays same n (left_false (has_merge_key n) _ h))
      (nodes_stay same nodes (right_false (has_merge_key n) _ h))

  pairs_stay : (same : Sameness) (ps : DocPairs) → are_merging ps ≡ false → merged_pairs same ps ≡ ps
  pairs_stay same no_pairs h = refl
  pairs_stay same (pair k v ps) h =
      let rest = right_false (is_merge_key k) _ h in
      let more = right_false (has_merge_key k) _ rest in
      ap (λ n. pair n (merged same v) (merged_pairs same ps)) (stays same k (left_false (has_merge_key k) _ rest))
      ∙ (ap (λ n. pair k n (merged_pairs same ps)) (stays same v (left_false (has_merge_key v) _ more))
      ∙ ap (pair k v) (pairs_stay same ps (right_false (has_merge_key v) _ more)))

-- ---- own pairs come first
joined_none : (ps : DocPairs) → joined ps no_pairs ≡ ps
joined_none no_pairs = refl
joined_none (pair k v ps) = ap (pair k v) (joined_none ps)

joined_joined : (ps qs rs : DocPairs) → joined (joined ps qs) rs ≡ joined ps (joined qs rs)
joined_joined no_pairs qs rs = refl
joined_joined (pair k v ps) qs rs = ap (pair k v) (joined_joined ps qs rs)

-- these pairs begin with those
abbrev Begins : DocPairs → DocPairs → Type 0
Begins ps qs = (rest : DocPairs) × (qs ≡ joined ps rest)

begins_on : (ps qs rs : DocPairs) → Begins ps qs → Begins qs rs → Begins ps rs
begins_on ps qs rs (more, first) (last, second) =
    (joined more last, second ∙ (ap (λ x. joined x last) first ∙ joined_joined ps more last))

pub begins : (same : Sameness) (given : List DocPairs) (ps : DocPairs) → Begins ps (with_each same ps given)
begins same [] ps = (no_pairs, sym (joined_none ps))
begins same (qs ∷ given) ps =
    begins_on ps (with_missing same ps qs) (with_each same (with_missing same ps qs) given)
    (missing same ps qs, refl) (begins same given (with_missing same ps qs))

-- ---- what stands at a key
at_joined_if : (b : Bool) (w : DocNode) (o p q : Option DocNode) → p ≡ first_of o q
    → (if b then Some w else p) ≡ first_of (if b then Some w else o) q
at_joined_if true w o p q h = refl
at_joined_if false w o p q h = h

pub at_joined : (same : Sameness) (k : DocNode) (ps qs : DocPairs)
    → value_at same k (joined ps qs) ≡ first_of (value_at same k ps) (value_at same k qs)
at_joined same k no_pairs qs = refl
at_joined same k (pair l w ps) qs =
    at_joined_if (same k l) w (value_at same k ps) (value_at same k (joined ps qs)) (value_at same k qs)
    (at_joined same k ps qs)

first_of_first : (o p q : Option DocNode) → first_of (first_of o p) q ≡ first_of o (first_of p q)
first_of_first (Some v) p q = refl
first_of_first None p q = refl

false_true : (b : Bool) → b ≡ false → b ≡ true → ⊥
false_true true f t = absurd cc
false_true false f t = absurd cc

-- a key that is the same as one that is there is there too
there_if : (b c : Bool) (w : DocNode) (o p : Option DocNode) → (b ≡ true → c ≡ true)
    → (is_some o ≡ true → is_some p ≡ true) → is_some (if b then Some w else o) ≡ true
    → is_some (if c then Some w else p) ≡ true
there_if b true w o p h rest s = refl
there_if true false w o p h rest s = absurd (false_true false refl (h refl))
there_if false false w o p h rest s = rest s

pub there : (same : Sameness) → IsEquivalence same → (k l : DocNode) (ps : DocPairs) → same k l ≡ true
    → is_some (value_at same l ps) ≡ true → is_some (value_at same k ps) ≡ true
there same e k l no_pairs h s = s
there same e k l (pair m w ps) h s =
    there_if (same l m) (same k m) w (value_at same l ps) (value_at same k ps) (λ lm. e.on k l m h lm)
    (λ rest. there same e k l ps h rest) s

-- a value that is there comes before any other
first_there : (o p q : Option DocNode) → is_some o ≡ true → first_of o p ≡ first_of o q
first_there (Some v) p q h = refl
first_there None p q h = absurd (false_true false refl h)

first_of_none : (o : Option DocNode) → o ≡ first_of o None
first_of_none (Some v) = refl
first_of_none None = refl

-- Behind a first value, what is missing has the value that all have: b tells whether the pair's key is there, and c
-- whether it is the key that is looked for.
at_missing_if : (b c : Bool) (k v w : DocNode) (m q : DocPairs) (same : Sameness) (o : Option DocNode)
    → same k v ≡ c → (b ≡ true → c ≡ true → is_some o ≡ true)
    → first_of o (value_at same k m) ≡ first_of o (value_at same k q)
    → first_of o (value_at same k (if b then m else pair v w m)) ≡ first_of o (if c then Some w else value_at same k q)
at_missing_if true true k v w m q same o is there rest = first_there o _ _ (there refl refl)
at_missing_if true false k v w m q same o is there rest = rest
at_missing_if false true k v w m q same o is there rest =
    ap (λ b. first_of o (if b then Some w else value_at same k m)) is
at_missing_if false false k v w m q same o is there rest =
    ap (λ b. first_of o (if b then Some w else value_at same k m)) is ∙ rest

at_missing : (same : Sameness) → IsEquivalence same → (k : DocNode) (ps qs : DocPairs)
    → first_of (value_at same k ps) (value_at same k (missing same ps qs))
    ≡ first_of (value_at same k ps) (value_at same k qs)
at_missing same e k ps no_pairs = refl
at_missing same e k ps (pair l w qs) =
    at_missing_if (is_some (value_at same l ps)) (same k l) k l w (missing same ps qs) qs same (value_at same k ps) refl
    (λ inside is. there same e k l ps is inside) (at_missing same e k ps qs)

pub at_key : (same : Sameness) → IsEquivalence same → (k : DocNode) (given : List DocPairs) (ps : DocPairs)
    → value_at same k (with_each same ps given) ≡ first_of (value_at same k ps) (first_value_at same k given)
at_key same e k [] ps = first_of_none (value_at same k ps)
at_key same e k (qs ∷ given) ps =
    at_key same e k given (with_missing same ps qs)
    ∙ (ap (λ o. first_of o (first_value_at same k given))
    (at_joined same k ps (missing same ps qs) ∙ at_missing same e k ps qs)
    ∙ first_of_first (value_at same k ps) (value_at same k qs) (first_value_at same k given))

-- ---- no key twice
not_true : (b : Bool) → (b ≡ true → ⊥) → b ≡ false
not_true true h = absurd (h refl)
not_true false h = refl

none_of_if : (b : Bool) (w : DocNode) (o : Option DocNode) → (if b then Some w else o) ≡ None → (b ≡ false) × (o ≡ None)
none_of_if true w o h = absurd cc
none_of_if false w o h = (refl, h)

none_if : (b : Bool) (w : DocNode) (o : Option DocNode) → b ≡ false → o ≡ None → (if b then Some w else o) ≡ None
none_if true w o h rest = absurd cc
none_if false w o h rest = rest

not_some : (o : Option DocNode) → is_some o ≡ false → o ≡ None
not_some (Some v) h = absurd cc
not_some None h = refl

-- no key of the second pairs is among the first
abbrev AreApart : Sameness → DocPairs → DocPairs → Type 0
AreApart same ps no_pairs = Unit {0}
AreApart same ps (pair k v qs) = (value_at same k ps ≡ None) × AreApart same ps qs

missing_apart_if : (b : Bool) (same : Sameness) (k v : DocNode) (ps qs : DocPairs) → is_some (value_at same k ps) ≡ b
    → AreApart same ps qs → AreApart same ps (if b then qs else pair k v qs)
missing_apart_if true same k v ps qs is rest = rest
missing_apart_if false same k v ps qs is rest = (not_some (value_at same k ps) is, rest)

missing_apart : (same : Sameness) (ps qs : DocPairs) → AreApart same ps (missing same ps qs)
missing_apart same ps no_pairs = tt
missing_apart same ps (pair k v qs) =
    missing_apart_if (is_some (value_at same k ps)) same k v ps (missing same ps qs) refl (missing_apart same ps qs)

-- the key of a pair is not among those that are apart, and the others are apart from the rest
apart_of : (same : Sameness) → IsEquivalence same → (k v : DocNode) (ps qs : DocPairs) → AreApart same (pair k v ps) qs
    → (value_at same k qs ≡ None) × AreApart same ps qs
apart_of same e k v ps no_pairs apart = (refl, tt)
apart_of same e k v ps (pair l w qs) apart =
    let here = none_of_if (same l k) v (value_at same l ps) apart.0 in
    let rest = apart_of same e k v ps qs apart.1 in (
      none_if (same k l) w (value_at same k qs)
          (not_true (same k l) (λ kl. false_true (same l k) here.0 (e.back k l kl))) rest.0,
      (here.1, rest.1),
    )

once_joined : (same : Sameness) → IsEquivalence same → (ps qs : DocPairs) → stand_once same ps → stand_once same qs
    → AreApart same ps qs → stand_once same (joined ps qs)
once_joined same e no_pairs qs once more apart = more
once_joined same e (pair k v ps) qs once more apart =
    let found = apart_of same e k v ps qs apart in (
      at_joined same k ps qs ∙ (ap (λ o. first_of o (value_at same k qs)) once.0 ∙ found.0),
      once_joined same e ps qs once.1 more found.1,
    )

none_missing_if : (b c : Bool) (w : DocNode) (same : Sameness) (k l : DocNode) (m q : DocPairs) → same k l ≡ c
    → (value_at same k q ≡ None → value_at same k m ≡ None) → (if c then Some w else value_at same k q) ≡ None
    → value_at same k (if b then m else pair l w m) ≡ None
none_missing_if b true w same k l m q is rest none = absurd cc
none_missing_if true false w same k l m q is rest none = rest none
none_missing_if false false w same k l m q is rest none =
    ap (λ b. if b then Some w else value_at same k m) is ∙ rest none

-- a key that is not there is not among what is missing
none_missing : (same : Sameness) (k : DocNode) (ps qs : DocPairs) → value_at same k qs ≡ None
    → value_at same k (missing same ps qs) ≡ None
none_missing same k ps no_pairs none = refl
none_missing same k ps (pair l w qs) none =
    none_missing_if (is_some (value_at same l ps)) (same k l) w same k l (missing same ps qs) qs refl
    (none_missing same k ps qs) none

once_missing_if : (b : Bool) (same : Sameness) (k v : DocNode) (m : DocPairs) → value_at same k m ≡ None
    → stand_once same m → stand_once same (if b then m else pair k v m)
once_missing_if true same k v m none once = once
once_missing_if false same k v m none once = (none, once)

once_missing : (same : Sameness) (ps qs : DocPairs) → stand_once same qs → stand_once same (missing same ps qs)
once_missing same ps no_pairs once = tt
once_missing same ps (pair k v qs) once =
    once_missing_if (is_some (value_at same k ps)) same k v (missing same ps qs)
    (none_missing same k ps qs once.0) (once_missing same ps qs once.1)

pub once : (same : Sameness) → IsEquivalence same → (given : List DocPairs) (ps : DocPairs) → stand_once same ps
    → each_stand_once same given → stand_once same (with_each same ps given)
once same e [] ps h all = h
once same e (qs ∷ given) ps h all =
    once same e given (with_missing same ps qs)
    (once_joined same e ps (missing same ps qs) h (once_missing same ps qs all.0) (missing_apart same ps qs)) all.1

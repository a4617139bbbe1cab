-- Where the next token stands, no other comes next.
use Rattle.std.proofs.Common.{◌≡◌, ℕ, zero, suc, ◌+◌, ◌-◌, ◌≤◌, ◌==◌, ◌||◌, ◌⊎◌, Bool, true, false, List, [], ◌∷◌}
use Rattle.std.proofs.Common.{arith, ap, sym, subst, refl, ◌∙◌, drop, length, inl, inr}
use Rattle.std.specs.Prelude.{if◌then◌else◌}
use Rattle.std.proofs.lemmas.Bool.{ne_eqb, or_left, or_right}
use Rattle.yaml_grammar.specs.Bytes.{at}
use Rattle.yaml_grammar.specs.Gaps.{Before, apart, before, comment, gap, next, one_feed_more, one_more, token}
use Rattle.yaml_checked.proofs.WithinText.{by_test, next_within}

-- the first of the bytes from a place on, and those behind it
bytes_from : (text : List ℕ) (i c : ℕ) (cs : List ℕ) → drop i text ≡ c ∷ cs
    → (at text i ≡ c) × (drop (suc i) text ≡ cs)
bytes_from text zero c cs h = (ap (λ l. at l 0) h, ap (drop 1) h)
bytes_from [] (suc i) c cs h = let none : 0 ≡ length (c ∷ cs) = ap length h in absurd (omega (arith, none))
bytes_from (x ∷ xs) (suc i) c cs h = bytes_from xs i c cs h

-- what comes before a place behind a space or a line feed
apart_behind : (text : List ℕ) (i : ℕ) → (at text i == 32 || at text i == 10) ≡ true → before text (suc i) ≡ apart
apart_behind text i e =
    let none : (suc i == 0) ≡ false = ne_eqb (suc i) 0 (λ z. omega (arith, z)) in
    let there : suc i - 1 ≡ i = omega arith in
    ap (λ (b : Bool). if b then apart else token)
    (subst (λ k. (suc i == 0 || (at text k == 32 || at text k == 10)) ≡ true) (sym there) (rw (none, e) refl))

behind_feed : (text : List ℕ) (i c : ℕ) → at text i ≡ c → (c == 10) ≡ true → before text (suc i) ≡ apart
behind_feed text i c is feed =
    apart_behind text i (or_right (at text i == 32) (at text i == 10) (ap (λ k. k == 10) is ∙ feed))

behind_space : (text : List ℕ) (i c : ℕ) → at text i ≡ c → (c == 32) ≡ true → before text (suc i) ≡ apart
behind_space text i c is space =
    apart_behind text i (or_left (at text i == 32) (at text i == 10) (ap (λ k. k == 32) is ∙ space))

token_apart : token ≡ comment → ⊥
token_apart e = absurd cc

apart_comment : apart ≡ comment → ⊥
apart_comment e = absurd cc

gap_nil : (b : Before) → (gap b []).0 ≡ 0
gap_nil apart = refl
gap_nil token = refl
gap_nil comment = refl

over_stays : (text : List ℕ) (i j : ℕ) → drop i text ≡ [] → j ≡ i + 0 → next text j ≡ j
over_stays text i j none e =
    let same : j ≡ i = omega (arith, e) in
    let size : (gap (before text j) (drop j text)).0 ≡ 0 = ap (λ k. (gap (before text j) (drop k text)).0) same
    ∙ ap (λ l. (gap (before text j) l).0) none ∙ gap_nil (before text j) in
    omega (arith, size)

-- where nothing is stepped over
none_stays : (text : List ℕ) (i j : ℕ) (b : Before) (cs : List ℕ) → before text i ≡ b → drop i text ≡ cs
    → (gap b cs).0 ≡ 0 → j ≡ i + 0 → next text j ≡ j
none_stays text i j b cs is rest none e =
    let same : j ≡ i = omega (arith, e) in
    let size : (gap (before text j) (drop j text)).0 ≡ 0 = ap (λ k. (gap (before text k) (drop k text)).0) same
    ∙ ap (λ x. (gap x (drop i text)).0) is ∙ ap (λ l. (gap b l).0) rest ∙ none in
    omega (arith, size)

-- a place behind a gap that goes on behind this one
abbrev StaysBehind : List ℕ → (i : ℕ) → ℕ × Bool → Type 0
StaysBehind text i r = (j : ℕ) → j ≡ i + r.0 → next text j ≡ j

moved : (text : List ℕ) (i : ℕ) (r : ℕ × Bool) → StaysBehind text (suc i) r → StaysBehind text i (suc r.0, r.1)
moved text i r f j e = f j (omega (arith, e))

broken : (text : List ℕ) (i : ℕ) (r : ℕ × Bool) → StaysBehind text (suc i) r → StaysBehind text i (suc r.0, true)
broken text i r f j e = f j (omega (arith, e))

nothing_behind : (text : List ℕ) (i : ℕ) (b : Before) (cs : List ℕ) → before text i ≡ b → drop i text ≡ cs
    → (gap b cs).0 ≡ 0 → StaysBehind text i (0, false)
nothing_behind text i b cs is rest none j e = none_stays text i j b cs is rest none e

-- by what comes before the place, if it is in no comment
gap_stays : (text cs : List ℕ) (i : ℕ) (b : Before) → drop i text ≡ cs → (b ≡ comment) ⊎ (before text i ≡ b)
    → StaysBehind text i (gap b cs)
gap_stays text [] i apart none is = λ j e. over_stays text i j none e
gap_stays text [] i token none is = λ j e. over_stays text i j none e
gap_stays text [] i comment none is = λ j e. over_stays text i j none e
gap_stays text (c ∷ cs) i comment rest is =
    let behind = bytes_from text i c cs rest in
    let later = gap apart cs in
    by_test (StaysBehind text i) (c == 10) (one_feed_more later) (one_more (gap comment cs))
    (λ feed. broken text i later (gap_stays text cs (suc i) apart behind.1
    (inr (behind_feed text i c behind.0 feed))))
    (λ _. moved text i (gap comment cs) (gap_stays text cs (suc i) comment behind.1 (inl refl)))
gap_stays text (c ∷ cs) i token rest is =
    let behind = bytes_from text i c cs rest in
    let later = gap apart cs in
    by_test (StaysBehind text i) (c == 10) (one_feed_more later) (if c == 32 then one_more later else (0, false))
    (λ feed. broken text i later (gap_stays text cs (suc i) apart behind.1
    (inr (behind_feed text i c behind.0 feed))))
    (λ no_feed. by_test (StaysBehind text i) (c == 32) (one_more later) (0, false)
    (λ space. moved text i later (gap_stays text cs (suc i) apart behind.1
    (inr (behind_space text i c behind.0 space))))
    (λ no_space. nothing_behind text i token (c ∷ cs) (elim is [ inl e ↦ absurd (token_apart e) | inr e ↦ e ]) rest
    (rw (no_feed, no_space) refl)))
gap_stays text (c ∷ cs) i apart rest is =
    let behind = bytes_from text i c cs rest in
    let later = gap apart cs in
    let inner = gap comment cs in
    by_test (StaysBehind text i) (c == 10) (one_feed_more later)
    (if c == 32 then one_more later else if c == 35 then one_more inner else (0, false))
    (λ feed. broken text i later (gap_stays text cs (suc i) apart behind.1
    (inr (behind_feed text i c behind.0 feed))))
    (λ no_feed. by_test (StaysBehind text i) (c == 32) (one_more later)
    (if c == 35 then one_more inner else (0, false))
    (λ space. moved text i later (gap_stays text cs (suc i) apart behind.1
    (inr (behind_space text i c behind.0 space))))
    (λ no_space. by_test (StaysBehind text i) (c == 35) (one_more inner) (0, false)
    (λ sharp. moved text i inner (gap_stays text cs (suc i) comment behind.1 (inl refl)))
    (λ no_sharp. nothing_behind text i apart (c ∷ cs) (elim is [ inl e ↦ absurd (apart_comment e) | inr e ↦ e ]) rest
    (rw (no_feed, no_space, no_sharp) refl))))

-- the text goes on there, and the next token stands there
pub record IsPlace (text : List ℕ) (i : ℕ) : Type 0 where
  pub within : i ≤ length text
  pub here : next text i ≡ i

pub next_place : (text : List ℕ) (i : ℕ) → i ≤ length text → IsPlace text (next text i)
next_place text i within = record {
  within = next_within text i within;
  here = gap_stays text (drop i text) i (before text i) refl (inr refl) (next text i) refl;
}

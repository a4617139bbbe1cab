-- What is left of a text from a place on: its bytes, its columns, and where the next token stands.
use Rattle.std.proofs.Common.{◌≡◌, ℕ, zero, suc, ◌+◌, ◌-◌, Bool, true, false, not, ◌==◌, ◌&&◌, ◌||◌, refl}
use Rattle.std.proofs.Common.{subst, ap, ap₂, ◌∙◌, arith, List, [], ◌∷◌, ◌++◌, length, replicate, drop, nat_le, ne_eqb}
use Rattle.std.proofs.Common.{if◌then◌else◌}
use Rattle.std.proofs.lemmas.Bool.{and_parts}
use Rattle.std.proofs.lemmas.List.{get_or_past, length-append}
use Rattle.yaml_base.specs.Places.{place_behind, place_of}
use Rattle.yaml_grammar.specs.Bytes.{at, column}
use Rattle.yaml_grammar.specs.Gaps.{apart, before, breaks, ends_its_line, gap, next, token}
use Rattle.yaml_grammar.proofs.LeafLaws.{first_is, later_are}
use Rattle.yaml_grammar.proofs.LineLaws.{is_inside, later_of}
use Rattle.yaml_grammar.proofs.PlainLaws.{not_true}

-- these bytes are what is left of a text from a place on
pub record Rest (text : List ℕ) (i : ℕ) (xs : List ℕ) : Type 0 where
  pub same : drop i text ≡ xs
  pub reach : i + length xs ≡ length text

pub whole_rest : (text : List ℕ) → Rest text 0 text
whole_rest text = record { same = refl; reach = omega arith }

pub rest_is : {text : List ℕ} {i : ℕ} {xs ys : List ℕ} → xs ≡ ys → Rest text i xs → Rest text i ys
rest_is {text = text} {i = i} e r = subst (λ l. Rest text i l) e r

pub rest_place : {text : List ℕ} {i j : ℕ} {xs : List ℕ} → Rest text i xs → Rest text j xs → i ≡ j
rest_place r s = omega (arith, r.reach, s.reach)

-- the first byte, and what is behind it
pub rest_at : {text : List ℕ} {i c : ℕ} {xs : List ℕ} → Rest text i (c ∷ xs) → at text i ≡ c
rest_at {text = text} {i = i} {c = c} {xs = xs} r = first_is text i c xs r.same

pub rest_on : {text : List ℕ} {i c : ℕ} {xs : List ℕ} → Rest text i (c ∷ xs) → Rest text (suc i) xs
rest_on {text = text} {i = i} {c = c} {xs = xs} r = record {
  same = later_are text i c xs r.same;
  reach = omega (arith, r.reach);
}

pub rest_second : {text : List ℕ} {i c b : ℕ} {xs : List ℕ} → Rest text i (c ∷ b ∷ xs) → at text (i + 1) ≡ b
rest_second {text = text} {i = i} r =
    let next : i + 1 ≡ suc i = omega arith in
    ap (at text) next ∙ rest_at (rest_on r)

-- behind the text
pub rest_none : {text : List ℕ} {i : ℕ} → Rest text i [] → at text i ≡ 0
rest_none {text = text} {i = i} r = get_or_past text i 0 (omega (arith, r.reach))

-- behind some bytes
pub rest_skip : {text : List ℕ} {i : ℕ} {xs : List ℕ} (ws : List ℕ) → Rest text i (ws ++ xs)
    → Rest text (i + length ws) xs
rest_skip {text = text} {i = i} {xs = xs} ws r = record {
  same = later_of text i ws xs r.same;
  reach = omega (arith, r.reach, length-append ws xs);
}

pub rest_inside : {text : List ℕ} {i c : ℕ} {xs : List ℕ} → Rest text i (c ∷ xs) → nat_le (length text) i ≡ false
rest_inside {text = text} {i = i} {c = c} {xs = xs} r = is_inside text i c xs r.same

-- a space, `-`, `?` or `:`
pub data IsStep : ℕ → Type 0 where
  a_space : IsStep 32
  a_dash : IsStep 45
  a_question : IsStep 63
  a_colon : IsStep 58

place_step : (text : List ℕ) (i c : ℕ) → IsStep c → at text i ≡ c → (q : ℕ × ℕ)
    → place_behind text i q ≡ (q.0, q.1 + 1)
place_step text zero _ a_space e q = rw e refl
place_step text zero _ a_dash e q = rw e refl
place_step text zero _ a_question e q = rw e refl
place_step text zero _ a_colon e q = rw e refl
place_step text (suc i) _ a_space e q = rw (e, ne_eqb (suc i) 0 (λ z. absurd (omega (arith, z)))) refl
place_step text (suc i) _ a_dash e q = rw (e, ne_eqb (suc i) 0 (λ z. absurd (omega (arith, z)))) refl
place_step text (suc i) _ a_question e q = rw (e, ne_eqb (suc i) 0 (λ z. absurd (omega (arith, z)))) refl
place_step text (suc i) _ a_colon e q = rw (e, ne_eqb (suc i) 0 (λ z. absurd (omega (arith, z)))) refl

-- the column behind it
pub column_step : {text : List ℕ} {i c : ℕ} {xs : List ℕ} → IsStep c → Rest text i (c ∷ xs)
    → column text (suc i) ≡ column text i + 1
column_step {text = text} {i = i} {c = c} s r = ap (λ q. q.1) (place_step text i c s (rest_at r) (place_of text i))

-- spaces are stepped over
pub rest_in : {text : List ℕ} {i : ℕ} (n : ℕ) (xs : List ℕ) → Rest text i (replicate n 32 ++ xs) → Rest text (i + n) xs
rest_in {text = text} {i = i} zero xs r = subst (λ k. Rest text k xs) (omega arith) r
rest_in {text = text} {i = i} (suc n) xs r =
    let same : suc i + n ≡ i + suc n = omega arith in
    subst (λ k. Rest text k xs) same (rest_in n xs (rest_on r))

pub column_in : {text : List ℕ} {i : ℕ} (n : ℕ) (xs : List ℕ) → Rest text i (replicate n 32 ++ xs)
    → column text (i + n) ≡ column text i + n
column_in {text = text} {i = i} zero xs r =
    let same : i + 0 ≡ i = omega arith in
    ap (column text) same ∙ omega arith
column_in {text = text} {i = i} (suc n) xs r =
    let same : i + suc n ≡ suc i + n = omega arith in
    ap (column text) same ∙ (column_in n xs (rest_on r) ∙ omega (arith, column_step a_space r))

-- ---- tokens

-- nothing more, or what begins a token
abbrev pub begins_token : List ℕ → Bool
begins_token [] = true
begins_token (c ∷ cs) = not (c == 32) && (not (c == 10) && not (c == 35))

pub space_no : (c : ℕ) (cs : List ℕ) → begins_token (c ∷ cs) ≡ true → (c == 32) ≡ false
space_no c cs h = not_true (c == 32) (and_parts (not (c == 32)) (not (c == 10) && not (c == 35)) h).0

pub feed_no : (c : ℕ) (cs : List ℕ) → begins_token (c ∷ cs) ≡ true → (c == 10) ≡ false
feed_no c cs h =
    let p = and_parts (not (c == 32)) (not (c == 10) && not (c == 35)) h in
    not_true (c == 10) (and_parts (not (c == 10)) (not (c == 35)) p.1).0

hash_no : (c : ℕ) (cs : List ℕ) → begins_token (c ∷ cs) ≡ true → (c == 35) ≡ false
hash_no c cs h =
    let p = and_parts (not (c == 32)) (not (c == 10) && not (c == 35)) h in
    not_true (c == 35) (and_parts (not (c == 10)) (not (c == 35)) p.1).1

gap_token : (b : Bool) (xs : List ℕ) → begins_token xs ≡ true → gap (if b then apart else token) xs ≡ (0, false)
gap_token true [] h = refl
gap_token false [] h = refl
gap_token true (c ∷ cs) h = rw (space_no c cs h, feed_no c cs h, hash_no c cs h) refl
gap_token false (c ∷ cs) h = rw (space_no c cs h, feed_no c cs h) refl

gap_blanks : (n : ℕ) (xs : List ℕ) → begins_token xs ≡ true → gap apart (replicate n 32 ++ xs) ≡ (n, false)
gap_blanks zero xs h = gap_token true xs h
gap_blanks (suc n) xs h = ap (λ g. (suc g.0, g.1)) (gap_blanks n xs h)

gap_feed : (b : Bool) (n : ℕ) (xs : List ℕ) → begins_token xs ≡ true
    → gap (if b then apart else token) (10 ∷ (replicate n 32 ++ xs)) ≡ (suc n, true)
gap_feed true n xs h = ap (λ g. (suc g.0, true)) (gap_blanks n xs h)
gap_feed false n xs h = ap (λ g. (suc g.0, true)) (gap_blanks n xs h)

gap_space : (b : Bool) (xs : List ℕ) → begins_token xs ≡ true
    → gap (if b then apart else token) (32 ∷ xs) ≡ (1, false)
gap_space true xs h = ap (λ g. (suc g.0, g.1)) (gap_token true xs h)
gap_space false xs h = ap (λ g. (suc g.0, g.1)) (gap_token true xs h)

-- the next token, and whether a line ends before it
pub record Next (text : List ℕ) (i j : ℕ) (broken : Bool) : Type 0 where
  pub there : next text i ≡ j
  pub breaks : breaks text i ≡ broken

next_is : {text : List ℕ} {i : ℕ} {xs : List ℕ} (size : ℕ) (broken : Bool) → Rest text i xs
    → gap (before text i) xs ≡ (size, broken) → Next text i (i + size) broken
next_is {text = text} {i = i} {xs = xs} size broken r g =
    let all = ap (gap (before text i)) r.same ∙ g in
    record { there = ap (λ p. i + p.0) all; breaks = ap (λ p. p.1) all }

next_to : {text : List ℕ} {i j k : ℕ} {b : Bool} → j ≡ k → Next text i j b → Next text i k b
next_to {text = text} {i = i} {j = j} {k = k} {b = b} e n = subst (λ p. Next text i p b) e n

pub next_token : {text : List ℕ} {i : ℕ} {xs : List ℕ} → Rest text i xs → begins_token xs ≡ true → Next text i i false
next_token {text = text} {i = i} {xs = xs} r h =
    next_to {j = i + 0} (omega arith)
    (next_is 0 false r (gap_token (i == 0 || (at text (i - 1) == 32 || at text (i - 1) == 10)) xs h))

pub next_space : {text : List ℕ} {i : ℕ} {xs : List ℕ} → Rest text i (32 ∷ xs) → begins_token xs ≡ true
    → Next text i (suc i) false
next_space {text = text} {i = i} {xs = xs} r h =
    next_to {j = i + 1} (omega arith)
    (next_is 1 false r (gap_space (i == 0 || (at text (i - 1) == 32 || at text (i - 1) == 10)) xs h))

pub next_line : {text : List ℕ} {i : ℕ} (n : ℕ) (xs : List ℕ) → Rest text i (10 ∷ (replicate n 32 ++ xs))
    → begins_token xs ≡ true → Next text i (suc i + n) true
next_line {text = text} {i = i} n xs r h =
    next_to {j = i + suc n} (omega arith)
    (next_is (suc n) true r (gap_feed (i == 0 || (at text (i - 1) == 32 || at text (i - 1) == 10)) n xs h))

-- from the beginning of a line on
pub next_apart : {text : List ℕ} {i : ℕ} (n : ℕ) (xs : List ℕ) → at text i ≡ 10
    → Rest text (suc i) (replicate n 32 ++ xs) → begins_token xs ≡ true → Next text (suc i) (suc i + n) false
next_apart {text = text} {i = i} n xs e r h =
    let back : suc i - 1 ≡ i = omega arith in
    let feed : at text (suc i - 1) ≡ 10 = ap (at text) back ∙ e in
    let state : before text (suc i) ≡ apart = rw feed (any_or (suc i == 0) (10 == 32)) in
    next_is n false r (ap (λ b. gap b (replicate n 32 ++ xs)) state ∙ gap_blanks n xs h)
  where
    any_or : (x y : Bool) → (if x || (y || true) then apart else token) ≡ apart
    any_or true y = refl
    any_or false true = refl
    any_or false false = refl

-- a token follows in the line, or none does
pub line_goes_on : {text : List ℕ} {i j : ℕ} → Next text i j false → nat_le (length text) j ≡ false
    → ends_its_line text i ≡ false
line_goes_on {text = text} n inside =
    ap₂ (λ b k. b || nat_le (length text) k) n.breaks n.there ∙ inside

pub line_ends : {text : List ℕ} {i j : ℕ} → Next text i j true → ends_its_line text i ≡ true
line_ends {text = text} n = ap₂ (λ b k. b || nat_le (length text) k) n.breaks n.there

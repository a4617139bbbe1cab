-- What stands behind a printed node: a line whose first token stands further out, or begins a document, or nothing.
use Rattle.std.proofs.Common.{◌≡◌, ℕ, zero, suc, ◌+◌, ◌<◌, ◌≤◌, Bool, true, false, not, ◌==◌, ◌&&◌, ◌||◌, refl, sym}
use Rattle.std.proofs.Common.{subst, ap, ◌∙◌, arith, List, [], ◌∷◌, ◌++◌, length, replicate, drop, nat_le}
use Rattle.std.proofs.Common.{inl, inr}
use Rattle.std.proofs.lemmas.Bool.{and_parts, or_cases, eqb-true, false≢true, ne_eqb, lt-ltb, lt-leb}
use Rattle.yaml_grammar.specs.Bytes.{at, column, is_gap, is_mark, is_over, is_triple, parts}
use Rattle.yaml_grammar.specs.Folding.{feeds}
use Rattle.yaml_grammar.specs.Gaps.{is_at, is_item, is_within}
use Rattle.yaml_grammar.specs.Plain.{by_columns, stops_plain}
use Rattle.yaml_grammar.specs.PlainLines.{is_less_in}
use Rattle.yaml_grammar.proofs.LineLaws.{is_end}
use Rattle.yaml_grammar.proofs.PlainLaws.{Ends, ends_at_line}
use Rattle.yaml_printed.proofs.Rests.{Rest, rest_at, rest_none, rest_second, rest_in, column_in, begins_token, space_no}
use Rattle.yaml_printed.proofs.Rests.{feed_no}
use Rattle.yaml_printed.proofs.Rests.{Next, next_line, next_apart}
use Rattle.yaml_printed.proofs.TreeEnds.{Line, line_column}
use Rattle.yaml_printed.proofs.Words.{and_no, or_yes}

-- nothing more, or the beginning of a document
abbrev pub ends_document : List ℕ → Bool
ends_document [] = true
ends_document (c ∷ cs) = parts (c ∷ cs)

-- so many spaces and then a token are behind what stands in a column or further in
pub data Stops (least blanks : ℕ) (token : List ℕ) : Type 0 where
  further_out : blanks < least → Stops least blanks token
  at_end : blanks ≡ 0 → ends_document token ≡ true → Stops least blanks token

-- A line begins in e with these bytes; its first token is in j, and stands further out than a column, or begins a
-- document, or is none.
pub record Ahead (text : List ℕ) (least e j : ℕ) (after : List ℕ) : Type 0 where
  pub blanks : ℕ
  pub token : List ℕ
  pub rest : Rest text e after
  pub is : after ≡ replicate blanks 32 ++ token
  pub begins : begins_token token ≡ true
  pub start : Line text e
  pub there : e + blanks ≡ j
  pub stops : Stops least blanks token

pub stops_deeper : {least more blanks : ℕ} {token : List ℕ} → least ≤ more → Stops least blanks token
    → Stops more blanks token
stops_deeper le (further_out lt) = further_out (omega (arith, le, lt))
stops_deeper le (at_end none ends) = at_end none ends

pub deeper : {text : List ℕ} {least more e j : ℕ} {after : List ℕ} → least ≤ more → Ahead text least e j after
    → Ahead text more e j after
deeper le a = record {
  blanks = a.blanks;
  token = a.token;
  rest = a.rest;
  is = a.is;
  begins = a.begins;
  start = a.start;
  there = a.there;
  stops = stops_deeper le a.stops;
}

-- the first token
module _ {text : List ℕ} {least e j : ℕ} {after : List ℕ} (a : Ahead text least e j after) where
  pub line : Rest text e (replicate a.blanks 32 ++ a.token)
  line = subst (λ l. Rest text e l) a.is a.rest

  pub token_rest : Rest text j a.token
  token_rest = subst (λ k. Rest text k a.token) a.there (rest_in a.blanks a.token line)

  pub token_column : column text j ≡ a.blanks
  token_column =
      ap (column text) (sym a.there) ∙ (column_in a.blanks a.token line ∙ omega (arith, line_column a.start))

-- behind the line before it
pub next_ahead : {text : List ℕ} {least i e j : ℕ} (after : List ℕ) → Rest text i (10 ∷ after) → suc i ≡ e
    → Ahead text least e j after → Next text i j true
next_ahead {text = text} {i = i} {e = e} {j = j} after r be a =
    let here : Rest text i (10 ∷ (replicate a.blanks 32 ++ a.token)) = subst (λ l. Rest text i (10 ∷ l)) a.is r in
    let same : suc i + a.blanks ≡ j = omega (arith, be, a.there) in
    subst (λ k. Next text i k true) same (next_line a.blanks a.token here a.begins)

-- from the line's beginning on
pub next_here : {text : List ℕ} {least i j : ℕ} (after : List ℕ) → at text i ≡ 10
    → Ahead text least (suc i) j after → Next text (suc i) j false
next_here {text = text} {i = i} {j = j} after f a =
    subst (λ k. Next text (suc i) k false) a.there (next_apart a.blanks a.token f (line a) a.begins)

same_triple : (b : ℕ) (text : List ℕ) (i : ℕ) (xs : List ℕ) → Rest text i xs
    → is_triple b (drop i text) ≡ is_triple b xs
same_triple b text i xs r = ap (is_triple b) r.same

pub over_of : (text : List ℕ) (j : ℕ) (token : List ℕ) → Rest text j token → column text j ≡ 0
    → ends_document token ≡ true → is_over text j ≡ true
over_of text j [] r col ends = rw (is_end text j r.same) refl
over_of text j (c ∷ cs) r col ends = rw (r.same, col, ends) (or_yes (nat_le (length text) j))

low_no : (x : Bool) (c q : ℕ) → q < c → (not x && nat_le c q) ≡ false
low_no true c q lt = refl
low_no false c q lt = lt-leb c q lt

-- it stands no further in
pub gone : {text : List ℕ} {least e j : ℕ} {after : List ℕ} → Ahead text least e j after
    → is_within text least j ≡ false
gone {text = text} {least = least} {j = j} a = go a.stops
  where
    go : Stops least a.blanks a.token → is_within text least j ≡ false
    go (further_out lt) = low_no (is_over text j) least (column text j) (omega (arith, token_column a, lt))
    go (at_end none ends) =
        ap (λ b. not b && nat_le least (column text j))
        (over_of text j a.token (token_rest a) (token_column a ∙ none) ends)

-- ---- plain text ends before it

less_in : (least n q : ℕ) (token : List ℕ) → begins_token token ≡ true → q + n < least
    → is_less_in least q (replicate n 32 ++ token) ≡ true
less_in least zero q [] h lt = refl
less_in least zero q (c ∷ cs) h lt = rw (space_no c cs h, feed_no c cs h) (lt-ltb q least (omega arith))
less_in least (suc n) q token h lt = less_in least n (suc q) token h (omega arith)

or_last : (x y z w : Bool) → (x || (y || (z || (w || true)))) ≡ true
or_last true y z w = refl
or_last false true z w = refl
or_last false false true w = refl
or_last false false false true = refl
or_last false false false false = refl

marker_stop : (least c : ℕ) (cs : List ℕ) → parts (c ∷ cs) ≡ true
    → stops_plain (by_columns least) 0 (feeds 1) c cs ≡ true
marker_stop least c cs ends =
    rw (ends, or_yes (not (nat_le least 0))) (or_last (is_gap c) (c == 58 && is_gap (at cs 0)) (c == 35 && true) false)

marker_stops : (least c : ℕ) (cs : List ℕ) → begins_token (c ∷ cs) ≡ true → parts (c ∷ cs) ≡ true
    → Ends (by_columns least) (10 ∷ c ∷ cs)
marker_stops least c cs h ends column' skipped =
    rw (marker_stop least c cs ends, space_no c cs h, feed_no c cs h) refl

pub plain_ends : {text : List ℕ} {least e j : ℕ} {after : List ℕ} → Ahead text least e j after
    → Ends (by_columns least) (10 ∷ after)
plain_ends {least = least} {after = after} a =
    subst (λ l. Ends (by_columns least) (10 ∷ l)) (sym a.is) (go a.blanks a.token a.begins a.stops)
  where
    go : (n : ℕ) (token : List ℕ) → begins_token token ≡ true → Stops least n token
        → Ends (by_columns least) (10 ∷ (replicate n 32 ++ token))
    go n token h (further_out lt) =
        ends_at_line least (replicate n 32 ++ token) (less_in least n 0 token h (omega arith))
    go n [] h (at_end none ends) =
        subst (λ k. Ends (by_columns least) (10 ∷ (replicate k 32 ++ []))) (sym none) (ends_at_line least [] refl)
    go n (c ∷ cs) h (at_end none ends) =
        subst (λ k. Ends (by_columns least) (10 ∷ (replicate k 32 ++ (c ∷ cs)))) (sym none)
        (marker_stops least c cs h ends)

-- ---- no collection goes on there

no_dash_second : (x y : ℕ) (z : Bool) → (x == 45 && (y == 45 && z)) ≡ true → is_gap y ≡ false
no_dash_second x y z h =
    let p = and_parts (x == 45) (y == 45 && z) h in
    let second : y ≡ 45 = eqb-true y 45 (and_parts (y == 45) z p.1).0 in
    ap is_gap second

no_dash_first : (x : ℕ) (z : Bool) → (x == 46 && z) ≡ true → (x == 45) ≡ false
no_dash_first x z h =
    let first : x ≡ 46 = eqb-true x 46 (and_parts (x == 46) z h).0 in
    ap (λ k. k == 45) first

no_mark : (text : List ℕ) (j : ℕ) (token : List ℕ) → Rest text j token → ends_document token ≡ true
    → is_mark text 45 j ≡ false
no_mark text j [] r ends = rw (rest_none r) refl
no_mark text j (c ∷ cs) r ends = elim (or_cases (is_triple 45 (c ∷ cs)) (is_triple 46 (c ∷ cs)) ends) [
  | inl dashes ↦ rw (second_gap cs r dashes) (and_no (at text j == 45))
  | inr dots ↦ rw (rest_at r, no_dash_first c _ dots) refl
]
  where
    second_gap : (cs : List ℕ) → Rest text j (c ∷ cs) → is_triple 45 (c ∷ cs) ≡ true → is_gap (at text (j + 1)) ≡ false
    second_gap [] r h = absurd (false≢true (sym (and_no (c == 45)) ∙ h))
    second_gap (d ∷ ds) r h = ap is_gap (rest_second r) ∙ no_dash_second c d _ h

pub no_part : {text : List ℕ} {least e j : ℕ} {after : List ℕ} (q : ℕ) → least ≤ q → Ahead text least e j after
    → is_at text q j ≡ false
no_part {text = text} {least = least} {j = j} q le a = go a.stops
  where
    go : Stops least a.blanks a.token → is_at text q j ≡ false
    go (further_out lt) =
        rw (ne_eqb (column text j) q (λ e. absurd (omega (arith, token_column a, e, lt, le))))
        (and_no (not (is_over text j)))
    go (at_end none ends) =
        rw (over_of text j a.token (token_rest a) (token_column a ∙ none) ends) refl

pub no_item : {text : List ℕ} {least e j : ℕ} {after : List ℕ} (q : ℕ) → least ≤ q → Ahead text least e j after
    → is_item text q j ≡ false
no_item {text = text} {least = least} {j = j} q le a = go a.stops
  where
    go : Stops least a.blanks a.token → is_item text q j ≡ false
    go (further_out lt) =
        rw (ne_eqb (column text j) q (λ e. absurd (omega (arith, token_column a, e, lt, le))))
        (and_no (is_mark text 45 j))
    go (at_end none ends) = rw (no_mark text j a.token (token_rest a) ends) refl

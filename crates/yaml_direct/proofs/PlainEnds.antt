-- Where a plain text ends, and where it goes on in a later line.
use Rattle.std.proofs.Common.{ℕ, zero, suc, ◌+◌, ◌-◌, ◌≡◌, ◌≢◌, ◌<◌, ◌≤◌, ◌⊎◌, ◌==◌, ◌&&◌, ◌||◌, Bool, true, false}
use Rattle.std.proofs.Common.{List, [], ◌∷◌, ◌++◌, length, refl, sym, subst, ap, ap₂, ◌∙◌, arith, inl, inr, drop}
use Rattle.std.proofs.Common.{None, Some}
use Rattle.std.proofs.lemmas.Bool.{and_from, and_parts, cases_eq, cases_lt}
use Rattle.std.proofs.lemmas.Bool.{eqb-true, false≢true, or_cases, or_left, or_right}
use Rattle.std.proofs.lemmas.List.{append-nil, drop_all, get_or_past}
use Rattle.std.specs.Prelude.{slice_range}
use Rattle.std.specs.Prelude.{if◌then◌else◌}
use Rattle.yaml_direct.specs.Bytes as code
use Rattle.yaml_direct.proofs.ColumnLaws.{feed_column, space_column}
use Rattle.yaml_direct.proofs.NextLaws.{bytes_at, feed_goes, space_goes, spaces_go, token_here}
use Rattle.yaml_direct.specs.Lines.{PlainLine}
use Rattle.yaml_direct.proofs.PlainLaws.{blank_goes_on}
use Rattle.yaml_direct.proofs.PlainRest.{at_first, behind_blank, line_said, stop_turn}
use Rattle.yaml_direct.proofs.TextLaws.{bracket_same, gap_same, no_return}
use Rattle.yaml_grammar.specs.Bytes.{at, column, is_bracket, is_gap, is_text}
use Rattle.yaml_grammar.specs.Folding.{Passed, Rest, blanks, feeds, is_some_passed, nothing_passed}
use Rattle.yaml_grammar.specs.Gaps.{next}
use Rattle.yaml_grammar.specs.Plain.{Context, as_key, begins_plain, is_flow}
use Rattle.yaml_grammar.specs.Plain.{plain_at, plain_rest, stops_plain}

-- Behind a line feed no plain text goes on at this token, or where the text ends.
abbrev pub stops_later : Context → List ℕ → ℕ → Bool
stops_later context text i = stops_plain context (column text i) (feeds 1) (at text i) (drop (suc i) text)

pub inside_by : (text : List ℕ) (k c : ℕ) → at text k ≡ suc c → k < length text
inside_by text k c e =
    elim (cases_lt k (length text)) [
      | inl inside ↦ inside
      | inr behind ↦ absurd (omega (arith, e, get_or_past text k 0 behind))
    ]

pub behind_end : (context : Context) (text : List ℕ) (i : ℕ) → length text ≤ i → stops_later context text i ≡ true
behind_end context text i over =
    let zero_here : at text i ≡ 0 = get_or_past text i 0 over in
    or_left (is_gap (at text i)) _ (rw zero_here refl)

-- a plain text that goes on behind a line feed, or not, is the same one space or line feed further
pub fed_space : (context : Context) (text : List ℕ) (i s m : ℕ) → i < length text → at text i ≡ 32
    → ◌≡◌ {A = Rest} (plain_rest context (column text i) s (feeds m) (drop i text))
    (plain_rest context (column text (suc i)) (suc s) (feeds m) (drop (suc i) text))
fed_space context text i s m inside e =
    let next_column : suc (column text i) ≡ column text (suc i) = omega (arith, space_column text i e) in
    ap (plain_rest context (column text i) s (feeds m)) (bytes_at text i inside ∙ ap (λ c. c ∷ drop (suc i) text) e)
    ∙ ap (λ c. plain_rest context c (suc s) (feeds m) (drop (suc i) text)) next_column

pub fed_feed : (context : Context) (text : List ℕ) (i s m : ℕ) → i < length text → at text i ≡ 10
    → ◌≡◌ {A = Rest} (plain_rest context (column text i) s (feeds m) (drop i text))
    (plain_rest context (column text (suc i)) (suc s) (feeds (suc m)) (drop (suc i) text))
fed_feed context text i s m inside e =
    ap (plain_rest context (column text i) s (feeds m)) (bytes_at text i inside ∙ ap (λ c. c ∷ drop (suc i) text) e)
    ∙ ap (λ c. plain_rest context c (suc s) (feeds (suc m)) (drop (suc i) text)) (sym (feed_column text i e))

pub fed_stop : (context : Context) (text : List ℕ) (i s m : ℕ) → at text i ≢ 32 → at text i ≢ 10
    → stops_later context text i ≡ true
    → ◌≡◌ {A = Rest} (plain_rest context (column text i) s (feeds m) (drop i text)) (Some (0, []))
fed_stop context text i s m space feed stops =
    elim (cases_lt i (length text)) [
      | inl inside ↦ ap (plain_rest context (column text i) s (feeds m)) (bytes_at text i inside)
          ∙ stop_turn context (column text i) s (feeds m) (at text i) (drop (suc i) text) space feed stops
      | inr over ↦ ap (plain_rest context (column text i) s (feeds m)) (drop_all i text over)
    ]

-- `#` stops it behind what was passed
pub sharp_stop : (context : Context) (p : Passed) (col c : ℕ) (cs : List ℕ) → c ≡ 35 → is_some_passed p ≡ true
    → stops_plain context col p c cs ≡ true
sharp_stop context p col c cs e some =
    or_right (is_gap c) _ (or_right (c == 58 && is_gap (at cs 0)) _ (or_left (c == 35 && is_some_passed p) _ (rw
    (e, some) refl)))

pub sharp_stops : (context : Context) (text : List ℕ) (i : ℕ) → at text i ≡ 35 → stops_later context text i ≡ true
sharp_stops context text i e = sharp_stop context (feeds 1) (column text i) (at text i) (drop (suc i) text) e refl

-- where it stops at the next token it has ended
pub fed_ends : (context : Context) (text : List ℕ) (n i s m : ℕ) → length text ≤ n + i
    → stops_later context text (next text i) ≡ true
    → ◌≡◌ {A = Rest} (plain_rest context (column text i) s (feeds m) (drop i text)) (Some (0, []))
fed_ends context text zero i s m enough stops =
    ap (plain_rest context (column text i) s (feeds m)) (drop_all i text (omega (arith, enough)))
fed_ends context text (suc n) i s m enough stops =
    elim (cases_lt i (length text)) [
      | inr over ↦ ap (plain_rest context (column text i) s (feeds m)) (drop_all i text over)
      | inl inside ↦ elim (cases_eq (at text i) 32) [
        | inl space ↦ fed_space context text i s m inside space
            ∙ fed_ends context text n (suc i) (suc s) m (omega (arith, enough))
            (subst (λ k. stops_later context text k ≡ true) (space_goes text i space).there stops)
        | inr other ↦ elim (cases_eq (at text i) 10) [
          | inl feed ↦ fed_feed context text i s m inside feed
              ∙ fed_ends context text n (suc i) (suc s) (suc m) (omega (arith, enough))
              (subst (λ k. stops_later context text k ≡ true) (feed_goes text i feed).there stops)
          | inr byte ↦ elim (cases_eq (at text i) 35) [
            | inl sharp ↦ fed_stop context text i s m other byte (sharp_stops context text i sharp)
            | inr token ↦ fed_stop context text i s m other byte
                (subst (λ k. stops_later context text k ≡ true) (token_here text i byte other token).there stops)
          ]
        ]
      ]
    ]

-- over so many spaces in a line
over_blanks : (context : Context) (text : List ℕ) (r : ℕ → Rest) (n i : ℕ) (bs : List ℕ) → i + n ≤ length text
    → ((k : ℕ) → i ≤ k → k < i + n → at text k ≡ 32)
    → ((bs : List ℕ) (col s : ℕ) → is_some_passed (blanks bs) ≡ true
    → ◌≡◌ {A = Rest} (plain_rest context col s (blanks bs) (drop (i + n) text)) (r s))
    → (col s : ℕ) → (is_some_passed (blanks bs) ≡ true) ⊎ (0 < n)
    → ◌≡◌ {A = Rest} (plain_rest context col s (blanks bs) (drop i text)) (r (s + n))
over_blanks context text r zero i bs within blank end col s (inr some) = absurd (omega (arith, some))
over_blanks context text r zero i bs within blank end col s (inl some) =
    let same : i ≡ i + 0 = omega arith in
    let none : s ≡ s + 0 = omega arith in
    ap (λ k. plain_rest context col s (blanks bs) (drop k text)) same ∙ end bs col s some ∙ ap r none
over_blanks context text r (suc n) i bs within blank end col s some =
    let there : i + suc n ≡ suc i + n = omega arith in
    let size : suc s + n ≡ s + suc n = omega arith in
    let space : at text i ≡ 32 = blank i (omega arith) (omega arith) in
    ap (plain_rest context col s (blanks bs))
    (bytes_at text i (omega (arith, within)) ∙ ap (λ c. c ∷ drop (suc i) text) space)
    ∙ over_blanks context text r n (suc i) (bs ++ 32 ∷ []) (omega (arith, within))
    (λ k low high. blank k (omega (arith, low)) (omega (arith, high)))
    (λ more c t passed. ap (λ k. plain_rest context c t (blanks more) (drop k text)) (sym there) ∙ end more c t passed)
    (suc col) (suc s) (inl (behind_blank bs 32))
    ∙ ap r size

zero_gap : (c : ℕ) → (c == 0) ≡ true → is_gap c ≡ true
zero_gap c e = or_right (c == 32 || c == 9) _ (or_right (c == 10) _ e)

tab_gap : (c : ℕ) → (c == 9) ≡ true → is_gap c ≡ true
tab_gap c e = or_left (c == 32 || c == 9) _ (or_right (c == 32) _ e)

left_of : (x : Bool) → (x || false) ≡ true → x ≡ true
left_of true e = refl
left_of false e = e

-- where it stops by the code's test it stops by the grammar's, but before a `:` that may stand in it
pub both_stop : (context : Context) (text : List ℕ) (flow : Bool) (i : ℕ) (p : Passed) (col : ℕ) → is_text text ≡ true
    → is_flow context ≡ flow → at text i ≢ 10 → code.stops_plain text flow i ≡ true
    → (code.stops_at_colon text flow i ≡ true → at text i ≡ 58 → code.is_gap text (i + 1) ≡ true)
    → (at text i ≡ 35 → is_some_passed p ≡ true)
    → stops_plain context col p (at text i) (drop (suc i) text) ≡ true
both_stop context text flow i p col h f feed stops loose sharp =
    let c = at text i in
    let colon = c == 58 && is_gap (at (drop (suc i) text) 0) in
    elim (or_cases (code.ends_line text i) _ stops) [
      | inl ends ↦ elim (or_cases (c == 10) _ ends) [
        | inl e ↦ absurd (feed (eqb-true c 10 e))
        | inr rest ↦ elim (or_cases (c == 13) (c == 0) rest) [
          | inl e ↦ absurd (no_return text i h (eqb-true c 13 e))
          | inr e ↦ or_left (is_gap c) _ (zero_gap c e)
        ]
      ]
      | inr rest ↦ elim (or_cases (c == 9) _ rest) [
        | inl e ↦ or_left (is_gap c) _ (tab_gap c e)
        | inr more ↦ elim (or_cases (c == 58 && code.stops_at_colon text flow i) _ more) [
          | inl here ↦
              let both = and_parts (c == 58) _ here in
              let gap : is_gap (at (drop (suc i) text) 0) ≡ true =
              ap is_gap (at_first text i) ∙ sym (gap_same text (i + 1) h) ∙ loose both.1 (eqb-true c 58 both.0) in
              or_right (is_gap c) _ (or_left colon _ (and_from (c == 58) _ both.0 gap))
          | inr last ↦ elim (or_cases (c == 35 && at text (i - 1) == 32) (flow && code.is_bracket c) last) [
            | inl comment ↦
                let hash = and_parts (c == 35) _ comment in
                or_right (is_gap c) _ (or_right colon _ (or_left (c == 35 && is_some_passed p) _
                (and_from (c == 35) _ hash.0 (sharp (eqb-true c 35 hash.0)))))
            | inr bracket ↦
                or_right (is_gap c) _ (or_right colon _ (or_right (c == 35 && is_some_passed p) _
                (or_left (is_flow context && is_bracket c) _ (ap₂ (λ x y. x && y) f (sym (bracket_same c)) ∙ bracket))))
          ]
        ]
      ]
    ]

-- outside of brackets it may stand in it before no gap
pub no_loose : (text : List ℕ) (i : ℕ) → code.stops_at_colon text false i ≡ true → at text i ≡ 58
    → code.is_gap text (i + 1) ≡ true
no_loose text i stops colon = left_of (code.is_gap text (i + 1)) stops

-- where a line ends and it does not go on in a later line, nothing more is said
pub feed_stop : (context : Context) (text : List ℕ) (i : ℕ) → at text i ≡ 10
    → stops_later context text (next text i) ≡ true → (bs : List ℕ) (col s : ℕ)
    → ◌≡◌ {A = Rest} (plain_rest context col s (blanks bs) (drop i text)) (Some (0, []))
feed_stop context text i feed later bs col s =
    ap (plain_rest context col s (blanks bs))
    (bytes_at text i (inside_by text i 9 feed) ∙ ap (λ c. c ∷ drop (suc i) text) feed)
    ∙ ap (λ c. plain_rest context c (suc s) (feeds 1) (drop (suc i) text)) (sym (feed_column text i feed))
    ∙ fed_ends context text (length text) (suc i) (suc s) 1 (omega arith)
    (subst (λ k. stops_later context text k ≡ true) (feed_goes text i feed).there later)

-- what stands behind a part of a line ends the text, where it stops and does not go on in a later line
at_stop : (context : Context) (text : List ℕ) (i : ℕ) → is_text text ≡ true → is_flow context ≡ false → at text i ≢ 32
    → code.stops_plain text false i ≡ true → (at text i ≡ 10 → stops_later context text (next text i) ≡ true)
    → (bs : List ℕ) (col s : ℕ) → (at text i ≡ 35 → is_some_passed (blanks bs) ≡ true)
    → ◌≡◌ {A = Rest} (plain_rest context col s (blanks bs) (drop i text)) (Some (0, []))
at_stop context text i h f space stops later bs col s sharp =
    elim (cases_eq (at text i) 10) [
      | inl feed ↦ feed_stop context text i feed (later feed) bs col s
      | inr other ↦ elim (cases_lt i (length text)) [
        | inr over ↦ ap (plain_rest context col s (blanks bs)) (drop_all i text over)
        | inl inside ↦
            ap (plain_rest context col s (blanks bs)) (bytes_at text i inside)
            ∙ stop_turn context col s (blanks bs) (at text i) (drop (suc i) text) space other
            (both_stop context text false i (blanks bs) col h f other stops (no_loose text i) sharp)
      ]
    ]

pub sharp_behind : (text : List ℕ) (flow : Bool) (k : ℕ) → at text k ≡ 35 → code.stops_plain text flow k ≡ true
    → at text (k - 1) ≡ 32
sharp_behind text true k e stops =
    let x : ((at text (k - 1) == 32) || false) ≡ true = rw e at stops in
    eqb-true (at text (k - 1)) 32 (left_of (at text (k - 1) == 32) x)
sharp_behind text false k e stops =
    let x : ((at text (k - 1) == 32) || false) ≡ true = rw e at stops in
    eqb-true (at text (k - 1)) 32 (left_of (at text (k - 1) == 32) x)

pub stop_space : (text : List ℕ) (flow : Bool) (k : ℕ) → code.stops_plain text flow k ≡ true → at text k ≢ 32
stop_space text flow k stops e = false≢true (sym (blank_goes_on text flow k e) ∙ stops)

-- what stands behind a line of plain text, if it is known at the place where the line stops
pub line_stops : (context : Context) (text : List ℕ) (flow : Bool) (i j : ℕ) (r : Rest) → (l : PlainLine text flow i j)
    → i < j
    → ((bs : List ℕ) (col s : ℕ) → (at text l.stop ≡ 35 → is_some_passed (blanks bs) ≡ true)
    → ◌≡◌ {A = Rest} (plain_rest context col s (blanks bs) (drop l.stop text)) r)
    → (col : ℕ) → ◌≡◌ {A = Rest} (plain_rest context col 0 nothing_passed (drop j text)) r
line_stops context text flow i j r l some says col =
    elim (cases_lt j l.stop) [
      | inr none ↦
          let same : l.stop ≡ j = omega (arith, none, l.forward) in
          subst (λ k. ◌≡◌ {A = Rest} (plain_rest context col 0 nothing_passed (drop k text)) r) same
          (says [] col 0
          (λ e. absurd (l.last some (ap (λ k. at text (k - 1)) (sym same) ∙ sharp_behind text flow l.stop e l.stops))))
      | inl blank ↦
          let there : j + (l.stop - j) ≡ l.stop = omega (arith, blank) in
          let last : at text (l.stop - 1) ≡ 32 = l.blanks (l.stop - 1) (omega (arith, blank)) (omega (arith, blank)) in
          let within : j + (l.stop - j) ≤ length text = omega (arith, there, blank, inside_by text (l.stop - 1) 31 last) in
          over_blanks context text (λ _. r) (l.stop - j) j [] within
          (λ k low high. l.blanks k low (omega (arith, high, there)))
          (λ bs c s passed. ap (λ k. plain_rest context c s (blanks bs) (drop k text)) there
          ∙ says bs c s (λ _. passed))
          col 0 (inr (omega (arith, blank)))
    ]

-- behind a line of plain text that goes on in no later line, nothing more is said
pub line_ends : (context : Context) (text : List ℕ) (i j : ℕ) → is_text text ≡ true → (l : PlainLine text false i j)
    → is_flow context ≡ false → i < j → (at text l.stop ≡ 10 → stops_later context text (next text j) ≡ true)
    → (col : ℕ)
    → ◌≡◌ {A = Rest} (plain_rest context col 0 nothing_passed (drop j text)) (Some (0, []))
line_ends context text i j h l f some later col =
    let goes = spaces_go text j l.stop l.forward l.blanks in
    line_stops context text false i j (Some (0, [])) l some
    (at_stop context text l.stop h f (stop_space text false l.stop l.stops) l.stops
    (λ e. subst (λ k. stops_later context text k ≡ true) goes.there (later e)))
    col

-- as a key it says this part alone
later_key : (text : List ℕ) (i : ℕ) → stops_later as_key text i ≡ true
later_key text i =
    or_right (is_gap (at text i)) _ (or_right (at text i == 58 && is_gap (at (drop (suc i) text) 0)) _
    (or_right (at text i == 35 && true) _ refl))

pub key_said : (text : List ℕ) (i j : ℕ) → is_text text ≡ true → PlainLine text false i j → i < j → j ≤ length text
    → begins_plain text false i ≡ true
    → ◌≡◌ {A = Rest} (plain_at text as_key i) (Some (j - i, slice_range text i j))
key_said text i j h l some within begins =
    let size : i + suc (j - suc i) ≡ j = omega (arith, some) in
    let count : suc (j - suc i) + 0 ≡ j - i = omega (arith, some) in
    let goes : (k : ℕ) → i ≤ k → k < j → code.stops_plain text false k ≡ false =
    λ k low high. l.goes_on k low (omega (arith, high, l.forward)) in
    let all = line_said as_key text false h refl j (Some (0, []))
    (line_ends as_key text i j h l refl some (λ _. later_key text (next text j))) (l.last some) within
    (j - suc i) i size goes
    0 [] (column text i) (λ e. absurd (false≢true e)) in
    ap (λ x. if x then plain_rest as_key (column text i) 0 nothing_passed (drop i text) else None) begins
    ∙ all ∙ said_once (j - i) (suc (j - suc i)) (slice_range text i j) count
  where
    said_once : (n m : ℕ) (x : List ℕ) → m + 0 ≡ n
        → ◌≡◌ {A = Rest} (Some (0 + m + 0, x ++ [])) (Some (n, x))
    said_once n m x e = let same : 0 + m + 0 ≡ n = omega (arith, e) in ap₂ (λ k t. Some (k, t)) same (append-nil x)

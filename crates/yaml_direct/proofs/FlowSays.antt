-- Plain text in brackets.
use Rattle.std.proofs.Common.{ℕ, suc, ◌+◌, ◌-◌, ◌≡◌, ◌≢◌, ◌<◌, ◌≤◌, ◌⊎◌, ◌==◌, ◌&&◌, ◌||◌, not, Bool, true, false, List}
use Rattle.std.proofs.Common.{[], length, refl, sym, ap, subst, ◌∙◌, arith, drop, inl, inr, None, Some}
use Rattle.std.proofs.Common.{slice_range}
use Rattle.std.specs.Prelude.{if◌then◌else◌}
use Rattle.std.proofs.lemmas.Bool.{and_left, and_parts, cases_Bool, cases_eq, cases_lt, eq-eqb, eqb-true}
use Rattle.std.proofs.lemmas.Bool.{false≢true, ne_eqb, not-true, or_left, or_right}
use Rattle.std.proofs.lemmas.List.{drop_all, get_or_past}
use Rattle.yaml_direct.specs.Bytes as code
use Rattle.yaml_direct.specs.Lines.{PlainLine}
use Rattle.yaml_direct.specs.PlainTexts.{HasNoLine, IsFirstLine, IsFurtherLine, flow_line, is_tight}
use Rattle.yaml_direct.proofs.FurtherLines.{further_goes}
use Rattle.yaml_direct.proofs.KeyLaws.{comment_over}
use Rattle.yaml_direct.proofs.NextLaws.{before_apart, bytes_at, feed_goes, spaces_go, token_here}
use Rattle.yaml_direct.proofs.PlainEnds.{both_stop, line_stops, sharp_behind, sharp_stop, stop_space, stops_later}
use Rattle.yaml_direct.proofs.PlainEnds.{feed_stop}
use Rattle.yaml_direct.proofs.PlainRest.{at_first, refused_turn, stop_turn}
use Rattle.yaml_direct.proofs.PlainSays.{SaysSoFar, line_some, none_more, says_cut, says_first, says_further}
use Rattle.yaml_direct.proofs.PlainSays.{says_with, whole_said}
use Rattle.yaml_direct.proofs.TextLaws.{bracket_same, gap_same}
use Rattle.yaml_grammar.specs.Bytes.{at, is_bracket, is_gap, is_over, is_text}
use Rattle.yaml_grammar.specs.Folding.{Passed, Rest, blanks, has_feed, is_some_passed, nothing_passed, with_bytes}
use Rattle.yaml_grammar.specs.Gaps.{breaks, next}
use Rattle.yaml_grammar.specs.Plain.{begins_plain, in_brackets, is_refused, plain_at, plain_rest, stops_plain}

-- what is said where plain text stops, before a `:` that stands before no gap or before another byte
abbrev pub stop_rest : (tight : Bool) → Rest
stop_rest true = None
stop_rest false = Some (0, [])

none_of : (x y : Bool) → (x && (y && false)) ≡ false
none_of true true = refl
none_of true false = refl
none_of false y = refl

tight_goes : (col : ℕ) (p : Passed) (c : ℕ) (cs : List ℕ) → c ≡ 58 → is_gap (at cs 0) ≡ false
    → stops_plain in_brackets col p c cs ≡ false
tight_goes col p c cs e gap = rw (e, gap) (none_of (has_feed p) (col == 0))

tight_refused : (c : ℕ) (cs : List ℕ) → c ≡ 58 → (is_bracket (at cs 0) || at cs 0 == 63) ≡ true
    → is_refused in_brackets c cs ≡ true
tight_refused c cs e mark = rw (e, mark) refl

-- before no gap a bracket or `?` stands there
tight_mark : (text : List ℕ) (i : ℕ) → is_text text ≡ true → code.stops_plain text true i ≡ true → at text i ≡ 58
    → is_gap (at text (i + 1)) ≡ false → (is_bracket (at text (i + 1)) || at text (i + 1) == 63) ≡ true
tight_mark text i h stops e gap =
    let d = at text (i + 1) in
    let all : ((code.is_gap text (i + 1) || (d == 63 || code.is_bracket d)) ||
    (false || false)) ≡ true = rw e at stops in
    marked (code.is_gap text (i + 1)) (d == 63) (code.is_bracket d) (is_bracket d) (gap_same text (i + 1) h ∙ gap)
    (bracket_same d) all
  where
    marked : (g q b b' : Bool) → g ≡ false → b ≡ b' → ((g || (q || b)) || (false || false)) ≡ true → (b' || q) ≡ true
    marked true q b b' gap same all = absurd (false≢true (sym gap))
    marked false true b true gap same all = refl
    marked false true b false gap same all = refl
    marked false false true true gap same all = refl
    marked false false true false gap same all = sym same
    marked false false false b' gap same all = absurd (false≢true all)

-- where it stops
flow_stop : (text : List ℕ) (i col s : ℕ) (p : Passed) → is_text text ≡ true → at text i ≢ 32 → at text i ≢ 10
    → (at text i ≡ 35) ⊎ (code.stops_plain text true i ≡ true) → (at text i ≡ 35 → is_some_passed p ≡ true)
    → ◌≡◌ {A = Rest} (plain_rest in_brackets col s p (drop i text)) (stop_rest (is_tight text i))
flow_stop text i col s p h space feed stops sharp =
    let c = at text i in
    let cs = drop (suc i) text in
    elim (cases_lt i (length text)) [
      | inr over ↦
          let none : is_tight text i ≡ false = and_left (c == 58) _ (rw (get_or_past text i 0 over) refl) in
          ap (plain_rest in_brackets col s p) (drop_all i text over) ∙ ap stop_rest (sym none)
      | inl inside ↦
          ap (plain_rest in_brackets col s p) (bytes_at text i inside)
          ∙ elim (cases_Bool (is_tight text i)) [
            | inl tight ↦
                let both = and_parts (c == 58) _ tight in
                let colon : c ≡ 58 = eqb-true c 58 both.0 in
                let gap = not-true (is_gap (at text (i + 1))) both.1 in
                let here : code.stops_plain text true i ≡ true = elim stops [
                  | inl comment ↦ absurd (omega (arith, comment, colon))
                  | inr is ↦ is
                ] in
                refused_turn in_brackets col s p c cs space feed
                (tight_goes col p c cs colon (ap is_gap (at_first text i) ∙ gap))
                (tight_refused c cs colon
                (ap (λ d. is_bracket d || d == 63) (at_first text i) ∙ tight_mark text i h here colon gap))
                ∙ ap stop_rest (sym tight)
            | inr loose ↦
                stop_turn in_brackets col s p c cs space feed
                (elim stops [
                  | inl comment ↦ sharp_stop in_brackets p col c cs comment (sharp comment)
                  | inr here ↦ both_stop in_brackets text true i p col h refl feed here
                      (λ _ colon. gap_same text (i + 1) h
                      ∙ loose_gap (c == 58) (is_gap (at text (i + 1))) (eq-eqb c 58 colon) loose)
                      sharp
                ])
                ∙ ap stop_rest (sym loose)
          ]
    ]
  where
    loose_gap : (x g : Bool) → x ≡ true → (x && not g) ≡ false → g ≡ true
    loose_gap true true e f = refl
    loose_gap true false e f = sym f
    loose_gap false g e f = absurd (false≢true e)

-- the byte of a stop is that of the next token in its line, or none of both is such a `:`
same_tight : (text : List ℕ) (i : ℕ) → at text i ≢ 32 → breaks text i ≡ false
    → (at text i ≡ 35 → at text (i - 1) ≡ 32) → is_tight text i ≡ is_tight text (next text i)
same_tight text i space whole behind =
    elim (cases_eq (at text i) 35) [
      | inr token ↦ elim (cases_eq (at text i) 10) [
        | inl feed ↦ absurd (false≢true (sym whole ∙ (feed_goes text i feed).lines))
        | inr other ↦ ap (is_tight text) (sym (token_here text i other space token).there)
      ]
      | inl sharp ↦
          let near = before_apart text i (apart_by (i == 0) (at text (i - 1)) (behind sharp)) in
          let over = comment_over text i sharp near whole in
          let here : is_tight text i ≡ false = and_left (at text i == 58) _ (ne_eqb (at text i) 58 (λ e. omega
          (arith, e, sharp))) in
          let none : is_tight text (next text i) ≡ false =
          and_left (at text (next text i) == 58) _ (rw (get_or_past text (next text i) 0 over) refl) in
          here ∙ sym none
    ]
  where
    apart_by : (x : Bool) (c : ℕ) → c ≡ 32 → (x || (c == 32 || c == 10)) ≡ true
    apart_by true c e = refl
    apart_by false c e = rw e refl

-- behind a line of it, where a token stands in the line
pub flow_ends : (text : List ℕ) (i j : ℕ) → is_text text ≡ true → (l : PlainLine text true i j) → i < j
    → breaks text j ≡ false → (col : ℕ)
    → ◌≡◌ {A = Rest} (plain_rest in_brackets col 0 nothing_passed (drop j text)) (stop_rest (is_tight text
    (next text j)))
flow_ends text i j h l some whole col =
    let goes = spaces_go text j l.stop l.forward l.blanks in
    let space = stop_space text true l.stop l.stops in
    let quiet : breaks text l.stop ≡ false = sym goes.lines ∙ whole in
    line_stops in_brackets text true i j (stop_rest (is_tight text (next text j))) l some
    (λ bs c s sharp. flow_stop text l.stop c s (blanks bs) h space
    (λ feed. false≢true (sym quiet ∙ (feed_goes text l.stop feed).lines)) (inr l.stops) sharp
    ∙ ap stop_rest (same_tight text l.stop space quiet (λ e. sharp_behind text true l.stop e l.stops)
    ∙ ap (is_tight text) (sym goes.there)))
    col

-- and where it goes on in no later line
pub flow_broken : (text : List ℕ) (i j : ℕ) → is_text text ≡ true → (l : PlainLine text true i j) → i < j
    → breaks text j ≡ true → stops_later in_brackets text (next text j) ≡ true → (col : ℕ)
    → ◌≡◌ {A = Rest} (plain_rest in_brackets col 0 nothing_passed (drop j text)) none_more
flow_broken text i j h l some broken later col =
    let goes = spaces_go text j l.stop l.forward l.blanks in
    let space = stop_space text true l.stop l.stops in
    line_stops in_brackets text true i j none_more l some
    (λ bs c s sharp. elim (cases_eq (at text l.stop) 10) [
      | inl feed ↦ feed_stop in_brackets text l.stop feed
          (subst (λ k. stops_later in_brackets text k ≡ true) goes.there later) bs c s
      | inr other ↦ elim (cases_eq (at text l.stop) 35) [
        | inr token ↦
            absurd (false≢true (sym (token_here text l.stop other space token).lines ∙ (sym goes.lines ∙ broken)))
        | inl comment ↦ flow_stop text l.stop c s (blanks bs) h space other (inr l.stops) sharp
            ∙ ap stop_rest (and_left (at text l.stop == 58) _ (ne_eqb (at text l.stop) 58 (λ e. omega
            (arith, e, comment))))
      ]
    ])
    col

stop_said : (t : Bool) (n : ℕ) (said : List ℕ)
    → ◌≡◌ {A = Rest} (with_bytes n said (stop_rest t)) (if t then None else Some (n, said))
stop_said true n said = refl
stop_said false n said = whole_said n said

-- one line of it
pub flow_line_by : (text : List ℕ) (flow : Bool) (i j : ℕ) → is_text text ≡ true → PlainLine text flow i j → i ≤ j
    → j ≤ length text → code.stops_plain text flow i ≡ false → at text i ≢ 32 → flow ≡ true
    → begins_plain text true i ≡ true → breaks text j ≡ false
    → ◌≡◌ {A = Rest} (plain_at text in_brackets i) (flow_line text i j)
flow_line_by text flow i j h l low within goes space f begins whole =
    let first : IsFirstLine text true i j = record {
      begins = begins;
      goes = subst (λ x. code.stops_plain text x i ≡ false) f goes;
      some = space;
      line = subst (λ x. PlainLine text x i j) f l;
    } in
    let s = says_first in_brackets text i j h first low within in
    let tight = is_tight text (next text j) in
    says_with in_brackets text i j (slice_range text i j) (stop_rest tight) s
    (flow_ends text s.start j h s.line s.some whole)
    ∙ stop_said tight (j - i) (slice_range text i j)

-- where no further line stands
pub flow_cut : (text : List ℕ) (from end : ℕ) (said : List ℕ) → is_text text ≡ true
    → SaysSoFar in_brackets text from end said → (n : HasNoLine text true end (next text end))
    → ◌≡◌ {A = Rest} (plain_at text in_brackets from) (if is_tight text n.stop then None else Some (end - from, said))
flow_cut text from end said h s n =
    let tight = is_tight text n.stop in
    says_cut in_brackets text from end said (stop_rest tight) h s n
    (λ p col q stops sharp. flow_stop text n.stop col q p h n.feeds.no_space n.feeds.no_feed stops sharp)
    ∙ stop_said tight (end - from) said

-- and where one does
pub flow_further : (text : List ℕ) (from end k stop : ℕ) (said more : List ℕ) → is_text text ≡ true
    → SaysSoFar in_brackets text from end said → k ≡ next text end → breaks text end ≡ true
    → is_over text k ≡ false → IsFurtherLine text true end k stop said more → k ≤ stop → stop ≤ length text
    → SaysSoFar in_brackets text from stop more
flow_further text from end k stop said more h s there broken over f low inside =
    let some = line_some text true k stop f.line low f.goes f.some in
    says_further in_brackets text from end k stop said more h s there (or_left (breaks text end) _ broken) f low inside
    (λ n sharp. further_goes in_brackets text true k n h refl f.goes f.some sharp refl over (omega
    (arith, some, inside)))

-- a bracket stops it
pub bracket_stops : (text : List ℕ) (k : ℕ) → is_bracket (at text k) ≡ true → stops_later in_brackets text k ≡ true
bracket_stops text k e =
    let c = at text k in
    or_right (is_gap c) _ (or_right (c == 58 && is_gap (at (drop (suc k) text) 0)) _ (or_right (c == 35 && true) _
    (or_left (is_bracket c) _ e)))

-- the whole, where it ends in its line or stops in a later one
pub flow_whole : (text : List ℕ) (from end : ℕ) (said : List ℕ) → is_text text ≡ true
    → SaysSoFar in_brackets text from end said
    → (breaks text end ≡ true → stops_later in_brackets text (next text end) ≡ true)
    → (t : Bool) → (breaks text end ≡ false → is_tight text (next text end) ≡ t) → (breaks text end ≡ true → t ≡ false)
    → ◌≡◌ {A = Rest} (plain_at text in_brackets from) (if t then None else Some (end - from, said))
flow_whole text from end said h s later t tight loose =
    says_with in_brackets text from end said (stop_rest t) s
    (elim (cases_Bool (breaks text end)) [
      | inr whole ↦ λ col. flow_ends text s.start end h s.line s.some whole col ∙ ap stop_rest (tight whole)
      | inl broken ↦ λ col. flow_broken text s.start end h s.line s.some broken (later broken) col
          ∙ ap stop_rest (sym (loose broken))
    ])
    ∙ stop_said t (end - from) said

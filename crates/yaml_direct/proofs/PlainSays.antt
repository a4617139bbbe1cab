-- What a plain text by columns says, line by line.
use Rattle.std.proofs.Common.{ℕ, suc, ◌+◌, ◌-◌, ◌≡◌, ◌≢◌, ◌<◌, ◌≤◌, ◌⊎◌, ◌==◌, ◌||◌, Bool, true, false}
use Rattle.std.proofs.Common.{List, [], ◌++◌, length, refl, sym, subst, ap, ap₂, ◌∙◌, arith, inl, inr, drop}
use Rattle.std.proofs.Common.{None, Some, nat_lt}
use Rattle.std.specs.Prelude.{slice_range}
use Rattle.std.proofs.lemmas.Bool.{cases_Bool, cases_eq, cases_lt, false≢true, ltb-true, or_cases}
use Rattle.std.proofs.lemmas.Bool.{leb-true}
use Rattle.std.proofs.lemmas.List.{append-nil}
use Rattle.std.specs.Prelude.{if◌then◌else◌}
use Rattle.yaml_direct.specs.Bytes as code
use Rattle.yaml_direct.specs.Lines.{PlainLine}
use Rattle.yaml_direct.specs.PlainTexts.{HasNoLine, IsFirstLine, IsFurtherLine}
use Rattle.yaml_direct.proofs.FurtherLines.{Behind, feeds_blank, feeds_first, feeds_forward, feeds_go, further_line}
use Rattle.yaml_direct.proofs.FurtherLines.{line_whole, next_no_sharp}
use Rattle.yaml_direct.proofs.NextLaws.{before_apart, before_token, sharp_here, sharp_moves}
use Rattle.yaml_direct.proofs.NextLaws.{token_here}
use Rattle.yaml_direct.proofs.PlainEnds.{key_said, line_stops, stop_space}
use Rattle.yaml_direct.proofs.PlainRest.{twice}
use Rattle.yaml_grammar.specs.Bytes.{at, column, is_text}
use Rattle.yaml_grammar.specs.Folding.{Passed, Rest, blanks, feeds, folded, is_some_passed, nothing_passed, with_bytes}
use Rattle.yaml_grammar.specs.Gaps.{breaks, ends_its_line, next}
use Rattle.yaml_grammar.specs.Plain.{Context, as_key, begins_plain, is_flow, plain_at, plain_rest}
use Rattle.yaml_grammar.specs.Plain.{stops_plain}

-- plain text that goes on as far as this line of it says this
pub record SaysSoFar (context : Context) (text : List ℕ) (from end : ℕ) (said : List ℕ) : Type 0 where
  pub begins : begins_plain text (is_flow context) from ≡ true
  pub low : from ≤ end
  pub start : ℕ
  pub line : PlainLine text (is_flow context) start end
  pub some : start < end
  pub front : (r : Rest) → Behind context text end r
      → ◌≡◌ {A = Rest} (plain_rest context (column text from) 0 nothing_passed (drop from text))
      (with_bytes (end - from) said r)

-- a line of plain text is not empty
pub line_some : (text : List ℕ) (flow : Bool) (i j : ℕ) → (l : PlainLine text flow i j) → i ≤ j
    → code.stops_plain text flow i ≡ false → at text i ≢ 32 → i < j
line_some text flow i j l low goes space =
    elim (cases_lt i j) [
      | inl less ↦ less
      | inr none ↦
          let same : j ≡ i = omega (arith, low, none) in
          elim (cases_lt j l.stop) [
            | inl blank ↦ absurd (space (ap (at text) (sym same) ∙ l.blanks j (omega arith) blank))
            | inr over ↦
                let here : l.stop ≡ i = omega (arith, over, l.forward, same) in
                absurd (false≢true (sym goes ∙ subst (λ k. code.stops_plain text flow k ≡ true) here l.stops))
          ]
    ]

pub says_first : (context : Context) (text : List ℕ) (from end : ℕ) → is_text text ≡ true
    → IsFirstLine text (is_flow context) from end → from ≤ end → end ≤ length text
    → SaysSoFar context text from end (slice_range text from end)
says_first context text from end h f low within =
    let flow = is_flow context in
    let some = line_some text flow from end f.line low f.goes f.some in
    record {
      begins = f.begins;
      low = low;
      start = from;
      line = f.line;
      some = some;
      front = λ r tail. line_whole context text flow h refl from end r f.line some within tail (column text from);
    }

-- by what stands behind the line
pub says_with : (context : Context) (text : List ℕ) (from end : ℕ) (said : List ℕ) (r : Rest)
    → SaysSoFar context text from end said → Behind context text end r
    → ◌≡◌ {A = Rest} (plain_at text context from) (with_bytes (end - from) said r)
says_with context text from end said r s tail =
    let rest = plain_rest context (column text from) 0 nothing_passed (drop from text) in
    ap (λ x. if x then rest else None) s.begins ∙ s.front r tail

-- the end, where nothing more is said
abbrev pub none_more : Rest
none_more = Some (0, [])

pub whole_said : (n : ℕ) (said : List ℕ) → ◌≡◌ {A = Rest} (with_bytes n said none_more) (Some (n, said))
whole_said n said = let same : n + 0 ≡ n = omega arith in ap₂ (λ k t. Some (k, t)) same (append-nil said)

pub says_whole : (context : Context) (text : List ℕ) (from end : ℕ) (said : List ℕ)
    → SaysSoFar context text from end said → Behind context text end none_more
    → ◌≡◌ {A = Rest} (plain_at text context from) (Some (end - from, said))
says_whole context text from end said s tail =
    says_with context text from end said none_more s tail ∙ whole_said (end - from) said

-- where a comment comes before the next token, or plain text stops there
pub says_cut : (context : Context) (text : List ℕ) (from end : ℕ) (said : List ℕ) (r : Rest) → is_text text ≡ true
    → SaysSoFar context text from end said → (n : HasNoLine text (is_flow context) end (next text end))
    → ((p : Passed) (col s : ℕ) → (at text n.stop ≡ 35) ⊎ (code.stops_plain text (is_flow context) n.stop ≡ true)
    → (at text n.stop ≡ 35 → is_some_passed p ≡ true)
    → ◌≡◌ {A = Rest} (plain_rest context col s p (drop n.stop text)) r)
    → ◌≡◌ {A = Rest} (plain_at text context from) (with_bytes (end - from) said r)
says_cut context text from end said r h s n over =
    let flow = is_flow context in
    let f = n.feeds in
    let goes = feeds_go text n.count end n.stop f.feeds in
    let low = feeds_forward text n.count end n.stop f.feeds in
    let stops : (at text n.stop ≡ 35)
    ⊎ (code.stops_plain text flow n.stop ≡ true) = elim (cases_eq (at text n.stop) 35) [
      | inl sharp ↦ inl sharp
      | inr token ↦
          let here = token_here text n.stop f.no_feed f.no_space token in
          elim n.none [
            | inl other ↦ absurd (other (sym (goes.there ∙ here.there)))
            | inr there ↦ inr (subst (λ k. code.stops_plain text flow k ≡ true) (goes.there ∙ here.there) there)
          ]
    ] in
    says_with context text from end said r s
    (elim (cases_lt 0 n.count) [
      | inl some ↦ λ col. feeds_first context text n.count end n.stop f.feeds some col 0 []
          ∙ over (feeds n.count) (column text n.stop) (0 + (n.stop - end)) stops (λ _. refl)
      | inr none ↦
          let blank = feeds_blank text n.count end n.stop f.feeds (omega (arith, none)) in
          let same = same_stop s.line.stop n.stop
          (λ less. stop_space text flow s.line.stop s.line.stops (blank s.line.stop s.line.forward less))
          (λ less. f.no_space (s.line.blanks n.stop low less)) in
          line_stops context text flow s.start end r s.line s.some
          (λ bs col q sharp. ap (λ k. plain_rest context col q (blanks bs) (drop k text)) same
          ∙ over (blanks bs) col q stops (λ e. sharp (ap (at text) same ∙ e)))
    ])
  where
    same_stop : (a b : ℕ) → (a < b → ⊥) → (b < a → ⊥) → a ≡ b
    same_stop a b f g = elim (cases_lt a b) [
      | inl less ↦ absurd (f less)
      | inr le ↦ elim (cases_lt b a) [ inl less ↦ absurd (g less) | inr ge ↦ omega (arith, le, ge) ]
    ]

feed_stops : (text : List ℕ) (flow : Bool) (k : ℕ) → at text k ≡ 10 → code.stops_plain text flow k ≡ true
feed_stops text flow k e = rw e refl

-- no line ends before a token that stands here
quiet : (text : List ℕ) (k : ℕ) → at text k ≢ 32 → at text k ≢ 10 → next text k ≡ k → breaks text k ≡ false
quiet text k space feed same =
    elim (cases_eq (at text k) 35) [
      | inr token ↦ (token_here text k feed space token).lines
      | inl sharp ↦ elim (cases_Bool (k == 0 || (at text (k - 1) == 32 || at text (k - 1) == 10))) [
        | inl apart ↦ absurd (sharp_moves text k sharp (before_apart text k apart) same)
        | inr close ↦ (sharp_here text k sharp (before_token text k close)).lines
      ]
    ]

-- and where it goes on
pub says_further : (context : Context) (text : List ℕ) (from end k stop : ℕ) (said more : List ℕ) → is_text text ≡ true
    → SaysSoFar context text from end said → k ≡ next text end → ends_its_line text end ≡ true
    → IsFurtherLine text (is_flow context) end k stop said more → k ≤ stop → stop ≤ length text
    → ((n : ℕ) → at text k ≢ 35
    → stops_plain context (column text k) (feeds n) (at text k) (drop (suc k) text) ≡ false)
    → SaysSoFar context text from stop more
says_further context text from end k stop said more h s there ends f low inside stays =
    let flow = is_flow context in
    let some = line_some text flow k stop f.line low f.goes f.some in
    let forward = feeds_forward text f.count end k f.feeds in
    let goes = feeds_go text f.count end k f.feeds in
    let counted : 0 < f.count = elim (or_cases (breaks text end) _ ends) [
      | inl broken ↦ elim (or_cases (nat_lt 0 f.count) (breaks text k) (sym goes.lines ∙ broken)) [
        | inl more ↦ ltb-true 0 f.count more
        | inr later ↦ absurd (false≢true (sym (quiet text k f.some
            (λ e. false≢true (sym f.goes ∙ feed_stops text flow k e)) (sym goes.there ∙ sym there)) ∙ later))
      ]
      | inr over ↦ absurd (omega (arith, leb-true (length text) (next text end) over, there, some, inside))
    ] in
    let sharp = next_no_sharp text f.count end k f.feeds counted there in
    let size : end - from + (stop - end) ≡ stop - from = omega (arith, s.low, forward, low) in
    record {
      begins = s.begins;
      low = omega (arith, s.low, forward, low);
      start = k;
      line = f.line;
      some = some;
      front = λ r tail. s.front (with_bytes (stop - end) (folded f.count ++ slice_range text k stop) r)
          (further_line context text flow end k stop f.count r h refl f.feeds counted f.some
          (stays f.count sharp) f.goes
          f.line some inside tail)
          ∙ twice (end - from) (stop - end) said (folded f.count ++ slice_range text k stop) r
          ∙ ap₂ (λ n x. with_bytes n x r) size (sym f.said);
    }

-- a line of plain text is one as a key
pub key_by : (text : List ℕ) (flow : Bool) (i j : ℕ) → is_text text ≡ true → PlainLine text flow i j → i ≤ j
    → j ≤ length text → code.stops_plain text flow i ≡ false → at text i ≢ 32 → flow ≡ false
    → begins_plain text false i ≡ true
    → ◌≡◌ {A = Rest} (plain_at text as_key i) (Some (j - i, slice_range text i j))
key_by text flow i j h l low within goes space f begins =
    let line = subst (λ x. PlainLine text x i j) f l in
    key_said text i j h line (line_some text false i j line low (subst
    (λ x. code.stops_plain text x i ≡ false) f goes) space)
    within begins

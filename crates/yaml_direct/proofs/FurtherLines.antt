-- Plain text that goes on in later lines.
use Rattle.std.proofs.Common.{ℕ, suc, ◌+◌, ◌-◌, ◌≡◌, ◌≢◌, ◌<◌, ◌≤◌, ◌==◌, ◌&&◌, ◌||◌, not, Bool, true, false}
use Rattle.std.proofs.Common.{List, [], ◌∷◌, ◌++◌, length, sym, subst, ap, ap₂, ◌∙◌, arith, inl, inr, drop, nat_le}
use Rattle.std.proofs.Common.{nat_lt}
use Rattle.std.specs.Prelude.{slice_range}
use Rattle.std.proofs.lemmas.Bool.{and_cases, and_left, cases_eq, cases_lt, eq-eqb}
use Rattle.std.proofs.lemmas.Bool.{false≢true, leb-true, lt-ltb, ne_eqb, not-false, or_cases, or_from}
use Rattle.std.proofs.lemmas.Bool.{or_left, or_parts, or_right}
use Rattle.std.proofs.lemmas.List.{append_assoc}
use Rattle.yaml_direct.specs.Bytes as code
use Rattle.yaml_direct.specs.Bytes.{AreBlanks}
use Rattle.yaml_direct.specs.Lines.{AreFeeds, PlainLine, a_feed, a_space, no_feed}
use Rattle.yaml_direct.proofs.ColumnLaws.{feed_column}
use Rattle.yaml_direct.proofs.NextLaws.{Goes, before_apart, bytes_at, feed_goes, goes_here, goes_on, sharp_moves, space_goes}
use Rattle.yaml_direct.proofs.PlainRest.{byte_turn, goes_on as line_goes, line_said, slice_more, slice_none, twice}
use Rattle.yaml_direct.proofs.PlainEnds.{behind_end, fed_feed, fed_space, inside_by}
use Rattle.yaml_direct.proofs.PlainEnds.{stops_later}
use Rattle.yaml_grammar.specs.Bytes.{at, column, is_bracket, is_gap, is_over, is_text, parts}
use Rattle.yaml_grammar.specs.Folding.{Rest, blanks, feeds, folded, nothing_passed, with_bytes}
use Rattle.yaml_grammar.specs.Gaps.{is_within, next}
use Rattle.yaml_grammar.specs.Plain.{Context, by_columns, column_behind, goes_on_in, is_flow}
use Rattle.yaml_grammar.specs.Plain.{plain_rest, stops_plain}

one_more : (i : ℕ) → suc i ≡ i + 1
one_more i = omega arith

pub feeds_forward : (text : List ℕ) (n i j : ℕ) → AreFeeds text n i j → i ≤ j
feeds_forward text n i j no_feed = omega arith
feeds_forward text n i j (a_space e f) = omega (arith, feeds_forward text n (i + 1) j f)
feeds_forward text n i j (a_feed {n = m} e f) = omega (arith, feeds_forward text m (i + 1) j f)

pub feeds_go : (text : List ℕ) (n i j : ℕ) → AreFeeds text n i j → Goes text i j (nat_lt 0 n)
feeds_go text n i j no_feed = goes_here text i
feeds_go text n i j (a_space e f) =
    goes_on text i (i + 1) j false (nat_lt 0 n) (subst (λ k. Goes text i k false) (one_more i) (space_goes text i e))
    (feeds_go text n (i + 1) j f)
feeds_go text n i j (a_feed {n = m} e f) =
    subst (λ b. Goes text i j b) (sym (lt-ltb 0 (suc m) (omega arith)))
    (goes_on text i (i + 1) j true (nat_lt 0 m) (subst (λ k. Goes text i k true) (one_more i) (feed_goes text i e))
    (feeds_go text m (i + 1) j f))

-- where none is, only spaces stand
pub feeds_blank : (text : List ℕ) (n i j : ℕ) → AreFeeds text n i j → n ≡ 0 → AreBlanks text i j
feeds_blank text n i j no_feed e k low high = absurd (omega (arith, low, high))
feeds_blank text n i j (a_space s f) e k low high =
    elim (cases_eq k i) [
      | inl same ↦ ap (at text) same ∙ s
      | inr other ↦ feeds_blank text n (i + 1) j f e k (omega (arith, low, other)) high
    ]
feeds_blank text n i j (a_feed {n = m} s f) e k low high = absurd (omega (arith, e))

-- behind them stands what is apart
pub feeds_apart : (text : List ℕ) (n i j : ℕ) → AreFeeds text n i j → i < j
    → (at text (j - 1) == 32 || at text (j - 1) == 10) ≡ true
feeds_apart text n i j no_feed some = absurd (omega (arith, some))
feeds_apart text n i j (a_space e f) some =
    elim (cases_lt (i + 1) j) [
      | inl more ↦ feeds_apart text n (i + 1) j f more
      | inr last ↦
          let back : j - 1 ≡ i = omega (arith, some, last) in
          or_left (at text (j - 1) == 32) _ (eq-eqb (at text (j - 1)) 32 (ap (at text) back ∙ e))
    ]
feeds_apart text n i j (a_feed {n = m} e f) some =
    elim (cases_lt (i + 1) j) [
      | inl more ↦ feeds_apart text m (i + 1) j f more
      | inr last ↦
          let back : j - 1 ≡ i = omega (arith, some, last) in
          or_right (at text (j - 1) == 32) _ (eq-eqb (at text (j - 1)) 10 (ap (at text) back ∙ e))
    ]

-- they are passed
pub feeds_fed : (context : Context) (text : List ℕ) (n i j s m : ℕ) → AreFeeds text n i j
    → ◌≡◌ {A = Rest} (plain_rest context (column text i) s (feeds m) (drop i text))
    (plain_rest context (column text j) (s + (j - i)) (feeds (m + n)) (drop j text))
feeds_fed context text n i j s m no_feed =
    let size : s ≡ s + (i - i) = omega arith in
    let same : m ≡ m + 0 = omega arith in
    ap₂ (λ k q. plain_rest context (column text i) k (feeds q) (drop i text)) size same
feeds_fed context text n i j s m (a_space e f) =
    let size : suc s + (j - (i + 1)) ≡ s + (j - i) = omega (arith, feeds_forward text n (i + 1) j f) in
    fed_space context text i s m (inside_by text i 31 e) e
    ∙ ap (λ k. plain_rest context (column text k) (suc s) (feeds m) (drop k text)) (one_more i)
    ∙ feeds_fed context text n (i + 1) j (suc s) m f
    ∙ ap (λ k. plain_rest context (column text j) k (feeds (m + n)) (drop j text)) size
feeds_fed context text n i j s m (a_feed {n = q} e f) =
    let size : suc s + (j - (i + 1)) ≡ s + (j - i) = omega (arith, feeds_forward text q (i + 1) j f) in
    let count : suc m + q ≡ m + suc q = omega arith in
    fed_feed context text i s m (inside_by text i 9 e) e
    ∙ ap (λ k. plain_rest context (column text k) (suc s) (feeds (suc m)) (drop k text)) (one_more i)
    ∙ feeds_fed context text q (i + 1) j (suc s) (suc m) f
    ∙ ap₂ (λ k c. plain_rest context (column text j) k (feeds c) (drop j text)) size count

pub feeds_first : (context : Context) (text : List ℕ) (n i j : ℕ) → AreFeeds text n i j → 0 < n → (col s : ℕ)
    (bs : List ℕ)
    → ◌≡◌ {A = Rest} (plain_rest context col s (blanks bs) (drop i text))
    (plain_rest context (column text j) (s + (j - i)) (feeds n) (drop j text))
feeds_first context text n i j no_feed some col s bs = absurd (omega (arith, some))
feeds_first context text n i j (a_space e f) some col s bs =
    let size : suc s + (j - (i + 1)) ≡ s + (j - i) = omega (arith, feeds_forward text n (i + 1) j f) in
    ap (plain_rest context col s (blanks bs))
    (bytes_at text i (inside_by text i 31 e) ∙ ap (λ c. c ∷ drop (suc i) text) e)
    ∙ ap (λ k. plain_rest context (suc col) (suc s) (blanks (bs ++ 32 ∷ [])) (drop k text)) (one_more i)
    ∙ feeds_first context text n (i + 1) j f some (suc col) (suc s) (bs ++ 32 ∷ [])
    ∙ ap (λ k. plain_rest context (column text j) k (feeds n) (drop j text)) size
feeds_first context text n i j (a_feed {n = q} e f) some col s bs =
    let size : suc s + (j - (i + 1)) ≡ s + (j - i) = omega (arith, feeds_forward text q (i + 1) j f) in
    let count : 1 + q ≡ suc q = omega arith in
    ap (plain_rest context col s (blanks bs))
    (bytes_at text i (inside_by text i 9 e) ∙ ap (λ c. c ∷ drop (suc i) text) e)
    ∙ ap₂ (λ c k. plain_rest context c (suc s) (feeds 1) (drop k text))
    (sym (feed_column text i e) ∙ ap (column text) (one_more i)) (one_more i)
    ∙ feeds_fed context text q (i + 1) j (suc s) 1 f
    ∙ ap₂ (λ k c. plain_rest context (column text j) k (feeds c) (drop j text)) size count

-- the next token is no `#`
pub next_no_sharp : (text : List ℕ) (n i k : ℕ) → AreFeeds text n i k → 0 < n → k ≡ next text i → at text k ≢ 35
next_no_sharp text n i k f some e sharp =
    let apart = feeds_apart text n i k f (moved f some) in
    sharp_moves text k sharp (before_apart text k (or_right (k == 0) _ apart))
    (sym (feeds_go text n i k f).there ∙ sym e)
  where
    moved : {m j : ℕ} → AreFeeds text m j k → 0 < m → j < k
    moved no_feed some = absurd (omega (arith, some))
    moved (a_space {n = m} {i = j} e f) some = omega (arith, feeds_forward text m (j + 1) k f)
    moved (a_feed {n = m} {i = j} e f) some = omega (arith, feeds_forward text m (j + 1) k f)

-- where the document ends nothing goes on
pub over_stops : (context : Context) (text : List ℕ) (k : ℕ) → is_over text k ≡ true
    → stops_later context text k ≡ true
over_stops context text k over =
    elim (cases_lt k (length text)) [
      | inr past ↦ behind_end context text k past
      | inl inside ↦
          let c = at text k in
          let cs = drop (suc k) text in
          or_right (is_gap c) _ (or_right (c == 58 && is_gap (at cs 0)) _ (or_right (c == 35 && true) _
          (or_right (is_flow context && is_bracket c) _ (or_right (not (goes_on_in context (column text k))) _
          (elim (or_cases (nat_le (length text) k) _ over) [
            | inl past ↦ absurd (omega (arith, leb-true (length text) k past, inside))
            | inr both ↦ ap (λ x. column text k == 0 && parts x) (sym (bytes_at text k inside)) ∙ both
          ])))))
    ]

-- where a token stands less far in nothing goes on
pub less_stops : (text : List ℕ) (least k : ℕ) → is_within text least k ≡ false
    → stops_later (by_columns least) text k ≡ true
less_stops text least k e =
    let c = at text k in
    let cs = drop (suc k) text in
    elim (and_cases (not (is_over text k)) (nat_le least (column text k)) e) [
      | inl over ↦ over_stops (by_columns least) text k (not-false (is_over text k) over)
      | inr far ↦ or_right (is_gap c) _ (or_right (c == 58 && is_gap (at cs 0)) _ (or_right (c == 35 && true) _
          (or_left (not (nat_le least (column text k))) _ (ap not far))))
    ]

-- and where one stands as far in and may go on it does
pub further_goes : (context : Context) (text : List ℕ) (flow : Bool) (k n : ℕ) → is_text text ≡ true
    → is_flow context ≡ flow → code.stops_plain text flow k ≡ false → at text k ≢ 32 → at text k ≢ 35
    → goes_on_in context (column text k) ≡ true → is_over text k ≡ false → k < length text
    → stops_plain context (column text k) (feeds n) (at text k) (drop (suc k) text) ≡ false
further_goes context text flow k n h f goes space sharp far here inside =
    let c = at text k in
    let cs = drop (suc k) text in
    let line = line_goes context text flow k [] h f space (λ e. absurd (false≢true e)) goes in
    let gap = or_parts (is_gap c) _ (line.no_stop 0) in
    let colon = or_parts (c == 58 && is_gap (at cs 0)) _ gap.1 in
    let comment = or_parts (c == 35 && false) _ colon.1 in
    let bracket = or_parts (is_flow context && is_bracket c) _ comment.1 in
    let over = or_parts (nat_le (length text) k) _ here in
    let apart : (column text k == 0 && parts (c ∷ cs)) ≡ false =
    ap (λ x. column text k == 0 && parts x) (sym (bytes_at text k inside)) ∙ over.1 in
    or_from (is_gap c) _ gap.0 (or_from (c == 58 && is_gap (at cs 0)) _ colon.0
    (or_from (c == 35 && true) _ (and_left (c == 35) true (ne_eqb c 35 sharp))
    (or_from (is_flow context && is_bracket c) _ bracket.0
    (or_from (not (goes_on_in context (column text k))) _ (ap not far) apart))))

-- the rest behind a part of a line
abbrev pub Behind : Context → List ℕ → (j : ℕ) → Rest → Type 0
Behind context text j r = (col : ℕ) → ◌≡◌ {A = Rest} (plain_rest context col 0 nothing_passed (drop j text)) r

-- a line of plain text
pub line_whole : (context : Context) (text : List ℕ) (flow : Bool) → is_text text ≡ true → is_flow context ≡ flow
    → (i j : ℕ) (r : Rest) → PlainLine text flow i j → i < j → j ≤ length text → Behind context text j r → (col : ℕ)
    → ◌≡◌ {A = Rest} (plain_rest context col 0 nothing_passed (drop i text))
    (with_bytes (j - i) (slice_range text i j) r)
line_whole context text flow h f i j r l some within tail col =
    let size : i + suc (j - suc i) ≡ j = omega (arith, some) in
    let count : 0 + suc (j - suc i) ≡ j - i = omega (arith, some) in
    line_said context text flow h f j r tail (l.last some) within (j - suc i) i size
    (λ k low high. l.goes_on k low (omega (arith, high, l.forward))) 0 [] col (λ e. absurd (false≢true e))
    ∙ ap (λ n. with_bytes n (slice_range text i j) r) count

-- a further line
pub further_line : (context : Context) (text : List ℕ) (flow : Bool) (end k stop n : ℕ) (r : Rest)
    → is_text text ≡ true → is_flow context ≡ flow → AreFeeds text n end k → 0 < n → at text k ≢ 32
    → stops_plain context (column text k) (feeds n) (at text k) (drop (suc k) text) ≡ false
    → code.stops_plain text flow k ≡ false → PlainLine text flow k stop → k < stop → stop ≤ length text
    → Behind context text stop r
    → Behind context text end (with_bytes (stop - end) (folded n ++ slice_range text k stop) r)
further_line context text flow end k stop n r h is f some space stays goes l more inside tail col =
    let here : k < length text = omega (arith, more, inside) in
    let line = line_goes context text flow k [] h is space (λ e. absurd (false≢true e)) goes in
    let low = feeds_forward text n end k f in
    let c = at text k in
    feeds_first context text n end k f some col 0 []
    ∙ ap (plain_rest context (column text k) (0 + (k - end)) (feeds n)) (bytes_at text k here)
    ∙ byte_turn context (column text k) (0 + (k - end)) (feeds n) c (drop (suc k) text) space line.no_feed
    stays line.taken
    ∙ elim (cases_lt (suc k) stop) [
      | inl longer ↦
          let size : suc k + suc (stop - suc (suc k)) ≡ stop = omega (arith, longer) in
          let count : suc (0 + (k - end)) + (0 + suc (stop - suc (suc k))) ≡ stop - end = omega (arith, longer, low) in
          let all : (folded n ++ c ∷ []) ++ slice_range text (suc k) stop ≡ folded n ++ slice_range text k stop =
          append_assoc (folded n) (c ∷ []) (slice_range text (suc k) stop)
          ∙ ap (λ x. folded n ++ x) (sym (slice_more text k stop more here)) in
          ap (with_bytes (suc (0 + (k - end))) (folded n ++ c ∷ []))
          (line_said context text flow h is stop r tail (l.last more) inside (stop - suc (suc k)) (suc k) size
          (λ q a b. l.goes_on q (omega (arith, a)) (omega (arith, b, l.forward))) 0 [] (column_behind (column text k) c)
          (λ e. absurd (false≢true e)))
          ∙ twice (suc (0 + (k - end))) (0 + suc (stop - suc (suc k))) (folded n ++ c ∷ []) (slice_range text (suc k) stop) r
          ∙ ap₂ (λ m x. with_bytes m x r) count all
      | inr last ↦
          let there : suc k ≡ stop = omega (arith, last, more) in
          let count : suc (0 + (k - end)) ≡ stop - end = omega (arith, there, low) in
          let one : c ∷ [] ≡ slice_range text k stop =
          sym (slice_more text k stop more here
          ∙ ap (λ x. c ∷ x) (subst (λ q. slice_range text (suc k) q ≡ []) there (slice_none text (suc k)))) in
          ap (with_bytes (suc (0 + (k - end))) (folded n ++ c ∷ []))
          (ap (λ q. plain_rest context (column_behind (column text k) c) 0 nothing_passed (drop q text)) there
          ∙ tail (column_behind (column text k) c))
          ∙ ap₂ (λ m x. with_bytes m (folded n ++ x) r) count one
    ]

-- Line feeds that a backslash takes away, and the ends of what stands between quotes.
use Rattle.std.proofs.Common.{ℕ, suc, ◌+◌, ◌-◌, ◌≤◌, ◌≡◌, ◌≢◌, ◌==◌, ◌&&◌, ◌||◌, not, inl, inr, Bool, true, false}
use Rattle.std.proofs.Common.{List, [], ◌++◌, Some, None, refl, sym, subst, ap, ap₂, ◌∙◌, append-nil, arith}
use Rattle.std.proofs.Common.{drop, length}
use Rattle.std.proofs.lemmas.Bool.{eqb-true, false≢true, or_cases}
use Rattle.std.proofs.lemmas.List.{drop_all, get_or_past}
use Rattle.yaml_base.specs.QuotedLines.{backslash, none}
use Rattle.yaml_direct.specs.Bytes.{at}
use Rattle.yaml_direct.specs.Quoted.{EndsRun, IsLineBegin, Unquotes, UnquotesBehind, is_closing, is_other, is_stop}
use Rattle.yaml_direct.specs.Quoted.{passed_by, quote_of, quoted_from, quoted_rest}
use Rattle.yaml_direct.specs.declared.quote.Quote.{Quote}
use Rattle.yaml_direct.specs.declared.quote.Quote.TheVariants.{Single, Double}
use Rattle.yaml_direct.proofs.NextLaws.{bytes_are}
use Rattle.yaml_direct.proofs.QuoteLines.{line_begins, line_parted}
use Rattle.yaml_direct.proofs.TextLaws.{no_return, zero_is_end}
use Rattle.yaml_direct.proofs.QuotePlaces.{closed_at}
use Rattle.yaml_direct.proofs.WithBytes.{some_rest, twice}
use Rattle.yaml_grammar.specs.Bytes.{is_text, parts}
use Rattle.yaml_grammar.specs.Folding.{Rest, escaped, nothing_passed, with_bytes}
use Rattle.yaml_grammar.specs.Quotes.{double_rest}

-- a backslash that ends a line
taken_away : (text : List ℕ) (i : ℕ) → at text i ≡ 92 → at text (i + 1) ≡ 10
    → quoted_from text Double i ≡ with_bytes 2 [] (quoted_rest Double true (escaped 0) (drop (i + 2) text))
taken_away text i slash feed =
    let one : suc i ≡ i + 1 = omega arith in
    let two : suc (i + 1) ≡ i + 2 = omega arith in
    let rest = quoted_rest Double true (escaped 0) (drop (i + 2) text) in
    ap (quoted_from text Double) refl
    ∙ ap (double_rest none false nothing_passed) (bytes_are text i 91 slash)
    ∙ ap (λ k. with_bytes 1 [] (double_rest backslash false nothing_passed (drop k text))) one
    ∙ ap (λ bs. with_bytes 1 [] (double_rest backslash false nothing_passed bs)) (bytes_are text (i + 1) 9 feed)
    ∙ ap (λ k. with_bytes 1 [] (with_bytes 1 [] (double_rest none true (escaped 0) (drop k text)))) two
    ∙ twice 1 1 [] [] rest

-- only double quotes have one
slash_double : (text : List ℕ) (quote : Quote) (i : ℕ) → EndsRun text quote i → at text i ≡ 92 → Double ≡ quote
slash_double text Double i ends slash = refl
slash_double text Single i (inl stop) slash = absurd (false≢true (sym (single_stop (at text i) slash) ∙ stop))
  where
    single_stop : (c : ℕ) → c ≡ 92 → is_stop Single c ≡ false
    single_stop c e = rw e refl
slash_double text Single i (inr over) slash = absurd (omega (arith, slash, get_or_past text i 0 over))

pub escaped_unquotes : (text : List ℕ) (quote : Quote) (i feed j k : ℕ) (old new : List ℕ) → is_text text ≡ true
    → EndsRun text quote i → at text i ≡ 92 → (at text (i + 1) ≢ 13 → feed ≡ i + 1) → at text feed ≡ 10 → feed + 1 ≤ j
    → IsLineBegin text (feed + 1) j → j ≤ k → UnquotesBehind text quote (passed_by 0) j k old new
    → Unquotes text quote i k old new
escaped_unquotes text quote i feed j k old new h ends slash there is low line high u =
    let same = there (no_return text (i + 1) h) in
    let double = slash_double text quote i ends slash in
    let next : feed + 1 ≡ i + 2 = omega (arith, same) in
    let rest = quoted_from text Double k in
    subst (λ q. Unquotes text q i k old new) double
    (let v = subst (λ q. UnquotesBehind text q (passed_by 0) j k old new) (sym double) u in
    record {
      said = v.said;
      added = v.added;
      rest = taken_away text i slash (ap (at text) (sym same) ∙ is)
          ∙ ap (with_bytes 2 []) (line_begins text Double (escaped 0) (i + 2) j refl (omega (arith, low, next))
          (subst (λ n. IsLineBegin text n j) next line)
          ∙ ap (with_bytes (j - (i + 2)) []) v.rest
          ∙ twice (j - (i + 2)) (k - j) [] v.said rest)
          ∙ twice 2 (j - (i + 2) + (k - j)) [] v.said rest
          ∙ ap (λ m. with_bytes m v.said rest) (omega (arith, low, next, high));
    })

pub escaped_unread : (text : List ℕ) (quote : Quote) (i feed j : ℕ) → is_text text ≡ true → EndsRun text quote i
    → at text i ≡ 92 → (at text (i + 1) ≢ 13 → feed ≡ i + 1) → at text feed ≡ 10 → feed + 1 ≤ j
    → IsLineBegin text (feed + 1) j
    → ◌≡◌ {A = Rest} (quoted_rest quote false (passed_by 0) (drop j text)) None
    → ◌≡◌ {A = Rest} (quoted_from text quote i) None
escaped_unread text quote i feed j h ends slash there is low line unread =
    let same = there (no_return text (i + 1) h) in
    let double = slash_double text quote i ends slash in
    let next : feed + 1 ≡ i + 2 = omega (arith, same) in
    subst (λ q. ◌≡◌ {A = Rest} (quoted_from text q i) None) double
    (taken_away text i slash (ap (at text) (sym same) ∙ is)
    ∙ ap (with_bytes 2 []) (line_begins text Double (escaped 0) (i + 2) j refl (omega (arith, low, next))
    (subst (λ n. IsLineBegin text n j) next line)
    ∙ ap (with_bytes (j - (i + 2)) [])
    (subst (λ q. ◌≡◌ {A = Rest} (quoted_rest q false (escaped 0) (drop j text)) None) (sym double) unread)))

pub escaped_parted : (text : List ℕ) (quote : Quote) (i feed : ℕ) → is_text text ≡ true → EndsRun text quote i
    → at text i ≡ 92 → (at text (i + 1) ≢ 13 → feed ≡ i + 1) → at text feed ≡ 10
    → parts (drop (feed + 1) text) ≡ true → ◌≡◌ {A = Rest} (quoted_from text quote i) None
escaped_parted text quote i feed h ends slash there is e =
    let same = there (no_return text (i + 1) h) in
    let next : feed + 1 ≡ i + 2 = omega (arith, same) in
    subst (λ q. ◌≡◌ {A = Rest} (quoted_from text q i) None) (slash_double text quote i ends slash)
    (taken_away text i slash (ap (at text) (sym same) ∙ is)
    ∙ ap (with_bytes 2 []) (line_parted text Double (escaped 0) (i + 2) (subst (λ n. parts
    (drop n text) ≡ true) next e)))

-- behind the text nothing is closed
pub over_unread : (text : List ℕ) (quote : Quote) (i : ℕ) → length text ≤ i
    → ◌≡◌ {A = Rest} (quoted_from text quote i) None
over_unread text Single i over = ap (quoted_rest Single false nothing_passed) (drop_all i text over)
over_unread text Double i over = ap (quoted_rest Double false nothing_passed) (drop_all i text over)

-- a backslash that ends the text
pub slash_unread : (text : List ℕ) (quote : Quote) (i feed : ℕ) → is_text text ≡ true → EndsRun text quote i
    → at text i ≡ 92 → is_other text quote i ≡ false → (at text (i + 1) ≢ 13 → feed ≡ i + 1) → at text feed ≢ 10
    → ◌≡◌ {A = Rest} (quoted_from text quote i) None
slash_unread text quote i feed h ends slash other there none_here =
    let same = there (no_return text (i + 1) h) in
    let one : suc i ≡ i + 1 = omega arith in
    let double = slash_double text quote i ends slash in
    let other' : is_other text Double i ≡ false = subst (λ q. is_other text q i ≡ false) (sym double) other in
    let over : length text ≤ i + 1 = zero_is_end text (i + 1) h (zero_by (at text i) (at text (i + 1)) slash other'
    (λ e. none_here (ap (at text) same ∙ e)) (no_return text (i + 1) h)) in
    subst (λ q. ◌≡◌ {A = Rest} (quoted_from text q i) None) double
    (ap (double_rest none false nothing_passed) (bytes_are text i 91 slash)
    ∙ ap (λ bs. with_bytes 1 [] (double_rest backslash false nothing_passed bs))
    (ap (λ k. drop k text) one ∙ drop_all (i + 1) text over))
  where
    zero_by : (c d : ℕ) → c ≡ 92 → (c == 92 && not (d == 10 || (d == 13 || d == 0))) ≡ false → d ≢ 10 → d ≢ 13 → d ≡ 0
    zero_by c d e f feed return = grind (arith, e, f, feed, return)

closing_by : (x o : Bool) → x ≡ true → o ≡ false → (x && not o) ≡ false → ⊥
closing_by true false e f g = false≢true (sym g)
closing_by true true e f g = false≢true (sym f)
closing_by false o e f g = false≢true e

-- where a run ends, and nothing of this stands
pub stop_unread : (text : List ℕ) (quote : Quote) (i : ℕ) → EndsRun text quote i → at text i ≢ 10
    → is_other text quote i ≡ false → at text i ≢ 92 → is_closing text quote i ≡ false
    → ◌≡◌ {A = Rest} (quoted_from text quote i) None
stop_unread text quote i (inr over) feed other slash shut = over_unread text quote i over
stop_unread text Single i (inl stop) feed other slash shut =
    elim (or_cases (at text i == 39) (at text i == 10) stop) [
      | inr is ↦ absurd (feed (eqb-true (at text i) 10 is))
      | inl is ↦ absurd (closing_by (at text i == 39) (is_other text Single i) is other shut)
    ]
stop_unread text Double i (inl stop) feed other slash shut =
    elim (or_cases (at text i == 34) _ stop) [
      | inl is ↦ absurd (closing_by (at text i == 34) (is_other text Double i) is other shut)
      | inr rest ↦ elim (or_cases (at text i == 92) (at text i == 10) rest) [
        | inl is ↦ absurd (slash (eqb-true (at text i) 92 is))
        | inr is ↦ absurd (feed (eqb-true (at text i) 10 is))
      ]
    ]

-- what was read up to a place, and on to another
pub read_on : (text : List ℕ) (quote : Quote) (b i j : ℕ) (v s m : List ℕ) → b ≤ i → i ≤ j
    → quoted_from text quote b ≡ with_bytes (i - b) v (quoted_from text quote i)
    → quoted_from text quote i ≡ with_bytes (j - i) s (quoted_from text quote j) → m ≡ v ++ s
    → quoted_from text quote b ≡ with_bytes (j - b) m (quoted_from text quote j)
read_on text quote b i j v s m low high first second added =
    let rest = quoted_from text quote j in
    first ∙ ap (with_bytes (i - b) v) second ∙ twice (i - b) (j - i) v s rest
    ∙ ap₂ (λ n x. with_bytes n x rest) (omega (arith, low, high)) (sym added)

-- to the quote that closes it
pub read_closed : (text : List ℕ) (quote : Quote) (b i : ℕ) (v : List ℕ) → b ≤ i
    → quoted_from text quote b ≡ with_bytes (i - b) v (quoted_from text quote i) → at text i ≡ quote_of quote
    → is_other text quote i ≡ false → ◌≡◌ {A = Rest} (quoted_from text quote b) (Some (i + 1 - b, v))
read_closed text quote b i v low first is alone =
    first ∙ ap (with_bytes (i - b) v) (closed_at text quote i is alone)
    ∙ some_rest (omega (arith, low)) (append-nil v)

-- or to where nothing can be read
pub read_none : (text : List ℕ) (quote : Quote) (b i : ℕ) (v : List ℕ)
    → quoted_from text quote b ≡ with_bytes (i - b) v (quoted_from text quote i)
    → ◌≡◌ {A = Rest} (quoted_from text quote i) None → ◌≡◌ {A = Rest} (quoted_from text quote b) None
read_none text quote b i v first unread = first ∙ ap (with_bytes (i - b) v) unread

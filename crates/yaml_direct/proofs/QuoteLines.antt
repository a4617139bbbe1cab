-- What stands between quotes over lines.
use Rattle.std.proofs.Common.{ℕ, zero, suc, ◌+◌, ◌-◌, ◌<◌, ◌≤◌, ◌≡◌, ◌≢◌, inl, inr}
use Rattle.std.proofs.Common.{true, false}
use Rattle.std.proofs.Common.{List, [], ◌∷◌, ◌++◌, None, refl, sym, subst, ap, ap₂, ◌∙◌, arith, drop, length}
use Rattle.std.proofs.Common.{replicate}
use Rattle.std.proofs.lemmas.Bool.{cases_lt, false≢true}
use Rattle.std.proofs.lemmas.Bool.{ne_eqb}
use Rattle.std.proofs.lemmas.List.{get_or-drop, get_or_past}
use Rattle.yaml_direct.specs.Bytes.{at}
use Rattle.yaml_direct.specs.Quoted.{IsLineBegin, Unquotes, UnquotesBehind, is_stop, said_break}
use Rattle.yaml_direct.specs.Quoted.{passed_by, quoted_from, quoted_rest}
use Rattle.yaml_direct.specs.declared.quote.Quote.{Quote}
use Rattle.yaml_direct.specs.declared.quote.Quote.TheVariants.{Single, Double}
use Rattle.yaml_direct.proofs.NextLaws.{bytes_at, bytes_are}
use Rattle.yaml_direct.proofs.QuoteLaws.{blank_by, feed_is, flush}
use Rattle.yaml_direct.proofs.WithBytes.{no_bytes, twice}
use Rattle.yaml_grammar.specs.Bytes.{is_blank, parts}
use Rattle.yaml_grammar.specs.Folding.{Passed, Rest, and_blank, and_feed, blanks, escaped, feeds, folded, has_feed}
use Rattle.yaml_grammar.specs.Folding.{nothing_passed, said_by, with_bytes}

-- where a line begins, documents may be parted
begins_by : (quote : Quote) (passed : Passed) (cs : List ℕ) → parts cs ≡ false
    → quoted_rest quote true passed cs ≡ quoted_rest quote false passed cs
begins_by Single passed [] e = refl
begins_by Double passed [] e = refl
begins_by Single passed (c ∷ cs) e = rw e refl
begins_by Double passed (c ∷ cs) e = rw e refl

parted_by : (quote : Quote) (passed : Passed) (cs : List ℕ) → parts cs ≡ true
    → ◌≡◌ {A = Rest} (quoted_rest quote true passed cs) None
parted_by Single passed [] e = refl
parted_by Double passed [] e = refl
parted_by Single passed (c ∷ cs) e = rw e refl
parted_by Double passed (c ∷ cs) e = rw e refl

pub line_parted : (text : List ℕ) (quote : Quote) (passed : Passed) (i : ℕ) → parts (drop i text) ≡ true
    → ◌≡◌ {A = Rest} (quoted_rest quote true passed (drop i text)) None
line_parted text quote passed i e = parted_by quote passed (drop i text) e

-- blanks behind a line feed count for nothing
same_passed : (passed : Passed) (c : ℕ) → has_feed passed ≡ true → and_blank passed c ≡ passed
same_passed (blanks bs) c e = absurd (false≢true e)
same_passed (feeds n) c e = refl
same_passed (escaped n) c e = refl

blank_stop : (quote : Quote) (c : ℕ) → is_blank c ≡ true → is_stop quote c ≡ false
blank_stop Single c e = grind (arith, e)
blank_stop Double c e = grind (arith, e)

blank_inside : (text : List ℕ) (i : ℕ) → is_blank (at text i) ≡ true → i < length text
blank_inside text i e =
    elim (cases_lt i (length text)) [
      | inl inside ↦ inside
      | inr over ↦ absurd (false≢true (sym (ap is_blank (get_or_past text i 0 over)) ∙ e))
    ]

pub one_blank : (text : List ℕ) (quote : Quote) (passed : Passed) (i : ℕ) → is_blank (at text i) ≡ true
    → quoted_rest quote false passed (drop i text)
    ≡ with_bytes 1 [] (quoted_rest quote false (and_blank passed (at text i)) (drop (suc i) text))
one_blank text quote passed i e =
    ap (quoted_rest quote false passed) (bytes_at text i (blank_inside text i e))
    ∙ blank_by quote passed (at text i) (drop (suc i) text) (blank_stop quote (at text i) e) e

fed_blanks : (text : List ℕ) (quote : Quote) (passed : Passed) → has_feed passed ≡ true → (n i : ℕ)
    → ((k : ℕ) → i ≤ k → k < i + n → is_blank (at text k) ≡ true)
    → quoted_rest quote false passed (drop i text) ≡ with_bytes n [] (quoted_rest quote false passed (drop
    (i + n) text))
fed_blanks text quote passed f zero i blank =
    let same : i ≡ i + 0 = omega arith in
    ap (λ k. quoted_rest quote false passed (drop k text)) same
    ∙ sym (no_bytes (quoted_rest quote false passed (drop (i + 0) text)))
fed_blanks text quote passed f (suc n) i blank =
    let there : suc i + n ≡ i + suc n = omega arith in
    let here = blank i (omega arith) (omega arith) in
    let rest = quoted_rest quote false passed (drop (i + suc n) text) in
    one_blank text quote passed i here
    ∙ ap (with_bytes 1 []) (ap (λ p. quoted_rest quote false p (drop (suc i) text)) (same_passed passed (at text i) f)
    ∙ fed_blanks text quote passed f n (suc i) (λ k low high. blank k (omega (arith, low)) (omega (arith, high)))
    ∙ ap (λ k. with_bytes n [] (quoted_rest quote false passed (drop k text))) there)
    ∙ twice 1 n [] [] rest ∙ ap (λ m. with_bytes m [] rest) (omega arith)

-- a line that begins
pub line_begins : (text : List ℕ) (quote : Quote) (passed : Passed) (i j : ℕ) → has_feed passed ≡ true → i ≤ j
    → IsLineBegin text i j
    → quoted_rest quote true passed (drop i text) ≡ with_bytes (j - i) [] (quoted_rest quote false passed (drop j text))
line_begins text quote passed i j f low b =
    let there : i + (j - i) ≡ j = omega (arith, low) in
    begins_by quote passed (drop i text) b.whole
    ∙ fed_blanks text quote passed f (j - i) i (λ k from to. b.blanks k from (omega (arith, to, there)))
    ∙ ap (λ k. with_bytes (j - i) [] (quoted_rest quote false passed (drop k text))) there

-- a line feed, and the line behind it
pub feed_line : (text : List ℕ) (quote : Quote) (passed : Passed) (i j : ℕ) → at text i ≡ 10 → i + 1 ≤ j
    → IsLineBegin text (i + 1) j
    → quoted_rest quote false passed (drop i text)
    ≡ with_bytes (j - i) [] (quoted_rest quote false (and_feed passed) (drop j text))
feed_line text quote passed i j feed low b =
    let one : suc i ≡ i + 1 = omega arith in
    let rest = quoted_rest quote false (and_feed passed) (drop j text) in
    ap (quoted_rest quote false passed) (bytes_are text i 9 feed)
    ∙ feed_is quote passed (drop (suc i) text)
    ∙ ap (with_bytes 1 []) (ap (λ k. quoted_rest quote true (and_feed passed) (drop k text)) one
    ∙ line_begins text quote (and_feed passed) (i + 1) j (fed passed) low b)
    ∙ twice 1 (j - (i + 1)) [] [] rest ∙ ap (λ m. with_bytes m [] rest) (omega (arith, low))
  where
    fed : (p : Passed) → has_feed (and_feed p) ≡ true
    fed (blanks bs) = refl
    fed (feeds n) = refl
    fed (escaped n) = refl

pub feed_parted : (text : List ℕ) (quote : Quote) (passed : Passed) (i : ℕ) → at text i ≡ 10
    → parts (drop (i + 1) text) ≡ true → ◌≡◌ {A = Rest} (quoted_rest quote false passed (drop i text)) None
feed_parted text quote passed i feed e =
    let one : suc i ≡ i + 1 = omega arith in
    ap (quoted_rest quote false passed) (bytes_are text i 9 feed)
    ∙ feed_is quote passed (drop (suc i) text)
    ∙ ap (with_bytes 1 []) (ap (λ k. quoted_rest quote true (and_feed passed) (drop k text)) one
    ∙ line_parted text quote (and_feed passed) (i + 1) e)

-- further line feeds
abbrev pub fed_by : ℕ → Passed → Passed
fed_by zero passed = passed
fed_by (suc count) passed = and_feed (fed_by count passed)

fed_feeds : (count : ℕ) → fed_by count (feeds 1) ≡ feeds (suc count)
fed_feeds zero = refl
fed_feeds (suc count) = ap and_feed (fed_feeds count)

fed_escaped : (count : ℕ) → fed_by count (escaped 0) ≡ escaped count
fed_escaped zero = refl
fed_escaped (suc count) = ap and_feed (fed_escaped count)

first_of : (text : List ℕ) (i : ℕ) → at (drop i text) 0 ≡ at text i
first_of text i = let same : i + 0 ≡ i = omega arith in get_or-drop i text 0 0 ∙ ap (at text) same

-- what was passed is said before what is no blank
flushed : (text : List ℕ) (quote : Quote) (passed : Passed) (i : ℕ) → at text i ≢ 10 → is_blank (at text i) ≡ false
    → quoted_rest quote false passed (drop i text) ≡ with_bytes 0 (said_by passed) (quoted_from text quote i)
flushed text quote passed i feed dark =
    flush quote passed (drop i text) (ne_eqb (at (drop i text) 0) 10 (λ e. feed (sym (first_of text i) ∙ e)))
    (ap is_blank (first_of text i) ∙ dark)

-- Lines between quotes go on from a place to another, behind what was passed.
pub record Breaks (text : List ℕ) (passed : Passed) (count i j : ℕ) : Type 0 where
  pub forward : i ≤ j
  pub dark : is_blank (at text j) ≡ false
  pub read : (quote : Quote) → quoted_rest quote false passed (drop i text)
      ≡ with_bytes (j - i) [] (quoted_rest quote false (fed_by count passed) (drop j text))

pub breaks_none : (text : List ℕ) (passed : Passed) (i : ℕ) → is_blank (at text i) ≡ false → Breaks text passed 0 i i
breaks_none text passed i dark = record {
  forward = omega arith;
  dark = dark;
  read = λ quote. sym (no_bytes (quoted_rest quote false passed (drop i text)))
      ∙ ap (λ m. with_bytes m [] (quoted_rest quote false passed (drop i text))) (omega arith);
}

pub breaks_more : (text : List ℕ) (passed : Passed) (count i j k : ℕ) → Breaks text passed count i j → at text j ≡ 10
    → j + 1 ≤ k → IsLineBegin text (j + 1) k → Breaks text passed (count + 1) i k
breaks_more text passed count i j k b feed low line = let one : suc count ≡ count + 1 = omega arith in
    subst (λ n. Breaks text passed n i k) one (record {
      forward = omega (arith, b.forward, low);
      dark = line.dark;
      read = λ quote.
          let rest = quoted_rest quote false (fed_by (suc count) passed) (drop k text) in
          b.read quote ∙ ap (with_bytes (j - i) []) (feed_line text quote (fed_by count passed) j k feed low line)
          ∙ twice (j - i) (k - j) [] [] rest ∙ ap (λ m. with_bytes m [] rest) (omega (arith, b.forward, low));
    })

pub breaks_parted : (text : List ℕ) (passed : Passed) (count i j : ℕ) → Breaks text passed count i j → at text j ≡ 10
    → parts (drop (j + 1) text) ≡ true → (quote : Quote)
    → ◌≡◌ {A = Rest} (quoted_rest quote false passed (drop i text)) None
breaks_parted text passed count i j b feed e quote =
    b.read quote ∙ ap (with_bytes (j - i) []) (feed_parted text quote (fed_by count passed) j feed e)

-- what they say
pub breaks_end : (text : List ℕ) (passed count i j : ℕ) (old new : List ℕ) → passed ≤ 1
    → Breaks text (passed_by passed) count i j → at text j ≢ 10 → new ≡ old ++ said_break passed count → (quote : Quote)
    → UnquotesBehind text quote (passed_by passed) i j old new
breaks_end text zero count i j old new few b feed added quote =
    let said = replicate count 10 in
    let rest = quoted_from text quote j in
    let n : j - i + 0 ≡ j - i = omega arith in
    record {
      said = said;
      added = added;
      rest = b.read quote
          ∙ ap (with_bytes (j - i) []) (ap (λ p. quoted_rest quote false p (drop j text)) (fed_escaped count)
          ∙ flushed text quote (escaped count) j feed b.dark)
          ∙ twice (j - i) 0 [] said rest ∙ ap (λ m. with_bytes m said rest) n;
    }
breaks_end text (suc zero) count i j old new few b feed added quote =
    let rest = quoted_from text quote j in
    let n : j - i + 0 ≡ j - i = omega arith in
    let one : suc count ≡ count + 1 = omega arith in
    record {
      said = folded (count + 1);
      added = added;
      rest = b.read quote
          ∙ ap (with_bytes (j - i) []) (ap (λ p. quoted_rest quote false p (drop j text)) (fed_feeds count)
          ∙ flushed text quote (feeds (suc count)) j feed b.dark)
          ∙ twice (j - i) 0 [] (folded (suc count)) rest
          ∙ ap₂ (λ m x. with_bytes m (folded x) rest) n one;
    }
breaks_end text (suc (suc passed)) count i j old new few b feed added quote = absurd (omega (arith, few))

-- a line feed, and further ones
pub feed_unquotes : (text : List ℕ) (quote : Quote) (i j k : ℕ) (old new : List ℕ) → at text i ≡ 10 → i + 1 ≤ j
    → IsLineBegin text (i + 1) j → j ≤ k → UnquotesBehind text quote (passed_by 1) j k old new
    → Unquotes text quote i k old new
feed_unquotes text quote i j k old new feed low line high u =
    let rest = quoted_from text quote k in
    record {
      said = u.said;
      added = u.added;
      rest = feed_line text quote nothing_passed i j feed low line ∙ ap (with_bytes (j - i) []) u.rest
          ∙ twice (j - i) (k - j) [] u.said rest ∙ ap (λ m. with_bytes m u.said rest) (omega (arith, low, high));
    }

pub feed_unread : (text : List ℕ) (quote : Quote) (i j : ℕ) → at text i ≡ 10 → i + 1 ≤ j → IsLineBegin text (i + 1) j
    → ◌≡◌ {A = Rest} (quoted_rest quote false (passed_by 1) (drop j text)) None
    → ◌≡◌ {A = Rest} (quoted_from text quote i) None
feed_unread text quote i j feed low line unread =
    feed_line text quote nothing_passed i j feed low line ∙ ap (with_bytes (j - i) []) unread

-- What stands between quotes, byte by byte and run by run.
use Rattle.std.proofs.Common.{ℕ, ◌+◌, ◌-◌, ◌<◌, ◌≡◌, ◌==◌, ◌||◌, Bool, true, false, List, [], ◌∷◌, ◌++◌}
use Rattle.std.proofs.Common.{Option, Some, None, refl, sym, ap, ap₂, ◌∙◌, arith, length, append_assoc, append-nil}
use Rattle.std.proofs.Common.{nat_lt, ◌*◌, suc}
use Rattle.std.proofs.lemmas.Bool.{or_parts}
use Rattle.std.specs.Char.{digit_value}
use Rattle.yaml_base.specs.QuotedLines.{backslash, none, digits, character_code, letter_code}
use Rattle.yaml_direct.specs.Bytes.{at}
use Rattle.yaml_direct.specs.Quoted.{is_stop, quoted_rest}
use Rattle.yaml_direct.specs.declared.quote.Quote.{Quote}
use Rattle.yaml_direct.specs.declared.quote.Quote.TheVariants.{Single, Double}
use Rattle.yaml_direct.proofs.WithBytes.{some_rest, twice}
use Rattle.yaml_grammar.specs.Bytes.{is_blank}
use Rattle.yaml_grammar.specs.Folding.{Passed, Rest, and_blank, and_feed, blanks, escaped, nothing_passed, said_by}
use Rattle.yaml_grammar.specs.Folding.{with_bytes}
use Rattle.yaml_grammar.specs.Quotes.{double_rest, single_rest, with_character}

-- a byte that stands for itself, and is no blank
pub dark_by : (quote : Quote) (passed : Passed) (c : ℕ) (cs : List ℕ) → is_stop quote c ≡ false → is_blank c ≡ false
    → quoted_rest quote false passed (c ∷ cs)
    ≡ with_bytes 1 (said_by passed ++ c ∷ []) (quoted_rest quote false nothing_passed cs)
dark_by Single passed c cs stop blank =
    let parts = or_parts (c == 39) (c == 10) stop in rw (parts.0, parts.1, blank) refl
dark_by Double passed c cs stop blank =
    let parts = or_parts (c == 34) (c == 92 || c == 10) stop in
    let more = or_parts (c == 92) (c == 10) parts.1 in rw (parts.0, more.0, more.1, blank) refl

-- a blank
pub blank_by : (quote : Quote) (passed : Passed) (c : ℕ) (cs : List ℕ) → is_stop quote c ≡ false → is_blank c ≡ true
    → quoted_rest quote false passed (c ∷ cs) ≡ with_bytes 1 [] (quoted_rest quote false (and_blank passed c) cs)
blank_by Single passed c cs stop blank =
    let parts = or_parts (c == 39) (c == 10) stop in rw (parts.0, parts.1, blank) refl
blank_by Double passed c cs stop blank =
    let parts = or_parts (c == 34) (c == 92 || c == 10) stop in
    let more = or_parts (c == 92) (c == 10) parts.1 in rw (parts.0, more.0, more.1, blank) refl

-- a line feed
pub feed_is : (quote : Quote) (passed : Passed) (cs : List ℕ)
    → quoted_rest quote false passed (10 ∷ cs) ≡ with_bytes 1 [] (quoted_rest quote true (and_feed passed) cs)
feed_is Single passed cs = refl
feed_is Double passed cs = refl

-- what was passed comes before what is read
before_one : (s : List ℕ) (c : ℕ) (r : Rest) → with_bytes 1 (s ++ c ∷ []) r ≡ with_bytes 0 s (with_bytes 1 (c ∷ []) r)
before_one s c r = sym (twice 0 1 s (c ∷ []) r)

before_none : (s : List ℕ) (r : Rest) → with_bytes 1 [] (with_bytes 0 s r) ≡ with_bytes 0 s (with_bytes 1 [] r)
before_none s r = twice 1 0 [] s r ∙ ap (λ x. with_bytes 1 x r) (sym (append-nil s)) ∙ sym (twice 0 1 s [] r)

abbrev Flushes : Passed → (Passed → Rest) → Type 0
Flushes passed read = read passed ≡ with_bytes 0 (said_by passed) (read nothing_passed)

flush_quote_by : (passed : Passed) (d : ℕ) (cs : List ℕ) (x : Bool) → (d == 39) ≡ x
    → Flushes passed (λ p. single_rest true false p (d ∷ cs))
flush_quote_by passed d cs true e = rw e (before_one (said_by passed) 39 (single_rest false false nothing_passed cs))
flush_quote_by passed d cs false e = rw e (some_rest refl (sym (append-nil (said_by passed))))

flush_quote : (passed : Passed) (cs : List ℕ) → Flushes passed (λ p. single_rest true false p cs)
flush_quote passed [] = some_rest refl (sym (append-nil (said_by passed)))
flush_quote passed (d ∷ cs) = flush_quote_by passed d cs (d == 39) refl

flush_single : (passed : Passed) (c : ℕ) (cs : List ℕ) (quote : Bool) → (c == 39) ≡ quote → (c == 10) ≡ false
    → is_blank c ≡ false → Flushes passed (λ p. single_rest false false p (c ∷ cs))
flush_single passed c cs true e feed blank =
    rw e (ap (with_bytes 1 []) (flush_quote passed cs)
    ∙ before_none (said_by passed) (single_rest true false nothing_passed cs))
flush_single passed c cs false e feed blank =
    rw (e, feed, blank) (before_one (said_by passed) c (single_rest false false nothing_passed cs))

flush_character : (passed : Passed) (code : Option ℕ) (r : Rest) → Flushes passed (λ p. with_character code p r)
flush_character passed None r = refl
flush_character passed (Some code) r = sym (twice 0 1 (said_by passed) _ r)

flush_digit_by : (passed : Passed) (left code c : ℕ) (cs : List ℕ) (digit last : Bool)
    → nat_lt (digit_value c) 16 ≡ digit → (left == 1) ≡ last
    → Flushes passed (λ p. double_rest (digits (left - 1) (16 * code + digit_value c)) false p cs)
    → Flushes passed (λ p. double_rest (digits left code) false p (c ∷ cs))
flush_digit_by passed left code c cs false last e f h = rw e refl
flush_digit_by passed left code c cs true true e f h =
    rw (e, f) (flush_character passed (character_code (16 * code + digit_value c))
    (double_rest none false nothing_passed cs))
flush_digit_by passed left code c cs true false e f h =
    rw (e, f) (ap (with_bytes 1 []) h ∙ before_none (said_by passed) _)

flush_digits : (passed : Passed) (left code : ℕ) (cs : List ℕ)
    → Flushes passed (λ p. double_rest (digits left code) false p cs)
flush_digits passed left code [] = refl
flush_digits passed left code (c ∷ cs) =
    flush_digit_by passed left code c cs (nat_lt (digit_value c) 16) (left == 1) refl refl
    (flush_digits passed (left - 1) (16 * code + digit_value c) cs)

flush_digits_more : (passed : Passed) (count : ℕ) (cs : List ℕ)
    → with_bytes 1 [] (double_rest (digits count 0) false passed cs)
    ≡ with_bytes 0 (said_by passed) (with_bytes 1 [] (double_rest (digits count 0) false nothing_passed cs))
flush_digits_more passed count cs =
    ap (with_bytes 1 []) (flush_digits passed count 0 cs) ∙ before_none (said_by passed) _

flush_letter : (passed : Passed) (c : ℕ) (cs : List ℕ) (feed two four eight : Bool) → (c == 10) ≡ feed
    → (c == 120) ≡ two → (c == 117) ≡ four → (c == 85) ≡ eight
    → Flushes passed (λ p. double_rest backslash false p (c ∷ cs))
flush_letter passed c cs true two four eight e f g h =
    rw e (ap (λ s. with_bytes 1 s (double_rest none true (escaped 0) cs)) (sym (append-nil (said_by passed)))
    ∙ sym (twice 0 1 (said_by passed) [] (double_rest none true (escaped 0) cs)))
flush_letter passed c cs false true four eight e f g h = rw (e, f) (flush_digits_more passed 2 cs)
flush_letter passed c cs false false true eight e f g h = rw (e, f, g) (flush_digits_more passed 4 cs)
flush_letter passed c cs false false false true e f g h = rw (e, f, g, h) (flush_digits_more passed 8 cs)
flush_letter passed c cs false false false false e f g h =
    rw (e, f, g, h) (flush_character passed (letter_code c) (double_rest none false nothing_passed cs))

flush_backslash : (passed : Passed) (cs : List ℕ) → Flushes passed (λ p. double_rest backslash false p cs)
flush_backslash passed [] = refl
flush_backslash passed (c ∷ cs) =
    flush_letter passed c cs (c == 10) (c == 120) (c == 117) (c == 85) refl refl refl refl

flush_double : (passed : Passed) (c : ℕ) (cs : List ℕ) (quote escape : Bool) → (c == 34) ≡ quote → (c == 92) ≡ escape
    → (c == 10) ≡ false → is_blank c ≡ false → Flushes passed (λ p. double_rest none false p (c ∷ cs))
flush_double passed c cs true escape e f feed blank = rw e (some_rest refl (sym (append-nil (said_by passed))))
flush_double passed c cs false true e f feed blank =
    rw (e, f) (ap (with_bytes 1 []) (flush_backslash passed cs)
    ∙ before_none (said_by passed) (double_rest backslash false nothing_passed cs))
flush_double passed c cs false false e f feed blank =
    rw (e, f, feed, blank) (before_one (said_by passed) c (double_rest none false nothing_passed cs))

-- where neither a blank nor a line feed stands
pub flush : (quote : Quote) (passed : Passed) (cs : List ℕ) → (at cs 0 == 10) ≡ false → is_blank (at cs 0) ≡ false
    → Flushes passed (λ p. quoted_rest quote false p cs)
flush Single passed [] feed blank = refl
flush Double passed [] feed blank = refl
flush Single passed (c ∷ cs) feed blank = flush_single passed c cs (c == 39) refl feed blank
flush Double passed (c ∷ cs) feed blank = flush_double passed c cs (c == 34) (c == 92) refl refl feed blank

-- bytes that stand for themselves, and then something else than a blank or a line feed
abbrev AreOwn : Quote → List ℕ → Type 0
AreOwn quote cs = (k : ℕ) → k < length cs → is_stop quote (at cs k) ≡ false

later_own : (quote : Quote) (c : ℕ) (cs : List ℕ) → AreOwn quote (c ∷ cs) → AreOwn quote cs
later_own quote c cs own k h = own (suc k) (omega (arith, h))

abbrev Runs : Quote → (r cs : List ℕ) → Type 0
Runs quote r cs =
    (bs : List ℕ) → quoted_rest quote false (blanks bs) (r ++ cs)
    ≡ with_bytes (length r) (bs ++ r) (quoted_rest quote false nothing_passed cs)

run_step : (quote : Quote) (c : ℕ) (r cs bs : List ℕ) (blank : Bool) → is_blank c ≡ blank → is_stop quote c ≡ false
    → Runs quote r cs → quoted_rest quote false (blanks bs) (c ∷ (r ++ cs))
    ≡ with_bytes (length (c ∷ r)) (bs ++ c ∷ r) (quoted_rest quote false nothing_passed cs)
run_step quote c r cs bs true e own more =
    let rest = quoted_rest quote false nothing_passed cs in
    blank_by quote (blanks bs) c (r ++ cs) own e
    ∙ ap (with_bytes 1 []) (more (bs ++ c ∷ []))
    ∙ twice 1 (length r) [] ((bs ++ c ∷ []) ++ r) rest
    ∙ ap₂ (λ n s. with_bytes n s rest) (omega arith) (append_assoc bs (c ∷ []) r)
run_step quote c r cs bs false e own more =
    let rest = quoted_rest quote false nothing_passed cs in
    dark_by quote (blanks bs) c (r ++ cs) own e
    ∙ ap (with_bytes 1 (bs ++ c ∷ [])) (more [])
    ∙ twice 1 (length r) (bs ++ c ∷ []) r rest
    ∙ ap₂ (λ n s. with_bytes n s rest) (omega arith) (append_assoc bs (c ∷ []) r)

pub run_all : (quote : Quote) (r cs : List ℕ) → AreOwn quote r → (at cs 0 == 10) ≡ false
    → is_blank (at cs 0) ≡ false → Runs quote r cs
run_all quote [] cs own feed blank bs =
    flush quote (blanks bs) cs feed blank
    ∙ ap (λ s. with_bytes 0 s (quoted_rest quote false nothing_passed cs)) (sym (append-nil bs))
run_all quote (c ∷ r) cs own feed blank bs =
    run_step quote c r cs bs (is_blank c) refl (own 0 (omega arith))
    (run_all quote r cs (later_own quote c r own) feed blank)

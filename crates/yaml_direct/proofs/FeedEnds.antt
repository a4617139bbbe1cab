-- Runs between quotes up to a line feed.
use Rattle.std.proofs.Common.{ℕ, zero, suc, ◌+◌, ◌-◌, ◌<◌, ◌≤◌, ◌≡◌, ◌≢◌, inl, inr, true, false}
use Rattle.std.proofs.Common.{List, []}
use Rattle.std.proofs.Common.{◌∷◌, ◌++◌, sym, subst, ap, ap₂, ◌∙◌, arith, drop, length, take, append_assoc}
use Rattle.std.proofs.Common.{append-nil}
use Rattle.std.proofs.Common.{length-drop, slice_range}
use Rattle.std.proofs.lemmas.Bool.{cases_Bool, cases_lt}
use Rattle.std.proofs.lemmas.List.{get_or-drop, get_or-take, length-take-le}
use Rattle.yaml_direct.specs.Bytes.{at}
use Rattle.yaml_direct.specs.Quoted.{IsRun, is_end_blank, is_stop, quoted_from, quoted_rest}
use Rattle.yaml_direct.specs.declared.quote.Quote.{Quote}
use Rattle.yaml_direct.proofs.NextLaws.{bytes_at, bytes_are}
use Rattle.yaml_direct.proofs.PlainRest.{slice_more, slice_none}
use Rattle.yaml_direct.proofs.QuoteLaws.{dark_by, feed_is}
use Rattle.yaml_direct.proofs.QuoteLines.{one_blank}
use Rattle.yaml_direct.proofs.TextLaws.{no_return}
use Rattle.yaml_direct.proofs.WithBytes.{no_bytes, twice}
use Rattle.yaml_grammar.specs.Bytes.{is_blank, is_text}
use Rattle.yaml_grammar.specs.Folding.{blanks, nothing_passed, with_bytes}

-- A run up to a line feed, which blanks may end: those are passed.
blank_run : (text : List ℕ) (quote : Quote) (n i : ℕ) → at text (i + n) ≡ 10
    → ((k : ℕ) → i ≤ k → k < i + n → is_blank (at text k) ≡ true) → (bs : List ℕ)
    → quoted_rest quote false (blanks bs) (drop i text) ≡ with_bytes n [] (quoted_from text quote (i + n))
blank_run text quote zero i feed blank bs =
    let same : i + 0 ≡ i = omega arith in
    let here : at text i ≡ 10 = ap (at text) (sym same) ∙ feed in
    ap (quoted_rest quote false (blanks bs)) (bytes_are text i 9 here)
    ∙ feed_is quote (blanks bs) (drop (suc i) text) ∙ sym (feed_is quote nothing_passed (drop (suc i) text))
    ∙ ap (quoted_rest quote false nothing_passed) (sym (bytes_are text i 9 here))
    ∙ ap (quoted_from text quote) (sym same) ∙ sym (no_bytes (quoted_from text quote (i + 0)))
blank_run text quote (suc n) i feed blank bs =
    let there : suc i + n ≡ i + suc n = omega arith in
    let rest = quoted_from text quote (i + suc n) in
    one_blank text quote (blanks bs) i (blank i (omega arith) (omega arith))
    ∙ ap (with_bytes 1 []) (blank_run text quote n (suc i) (ap (at text) there ∙ feed)
    (λ k low high. blank k (omega (arith, low)) (omega (arith, high))) (bs ++ at text i ∷ [])
    ∙ ap (λ k. with_bytes n [] (quoted_from text quote k)) there)
    ∙ twice 1 n [] [] rest ∙ ap (λ m. with_bytes m [] rest) (omega arith)

abbrev Runs : List ℕ → Quote → (i j stop : ℕ) → Type 0
Runs text quote i j stop =
    (bs : List ℕ) → quoted_rest quote false (blanks bs) (drop i text)
    ≡ with_bytes (stop - i) (bs ++ slice_range text i j) (quoted_from text quote stop)

-- the last byte before these blanks
dark_last : (text : List ℕ) (quote : Quote) (i j stop : ℕ) → i + 1 ≡ j → j ≤ stop → i < length text
    → is_stop quote (at text i) ≡ false → is_blank (at text i) ≡ false
    → ((bs : List ℕ) → quoted_rest quote false (blanks bs) (drop j text)
    ≡ with_bytes (stop - j) [] (quoted_from text quote stop))
    → Runs text quote i j stop
dark_last text quote i j stop one high inside own dark tail bs =
    let next : suc i ≡ j = omega (arith, one) in
    let rest = quoted_from text quote stop in
    let last : slice_range text i j ≡ at text i ∷ [] =
    slice_more text i j (omega (arith, one)) inside
    ∙ ap (λ x. at text i ∷ x) (ap (λ k. slice_range text k j) next ∙ slice_none text j) in
    ap (quoted_rest quote false (blanks bs)) (bytes_at text i inside)
    ∙ dark_by quote (blanks bs) (at text i) (drop (suc i) text) own dark
    ∙ ap (with_bytes 1 (bs ++ at text i ∷ [])) (ap (quoted_from text quote) next ∙ tail [])
    ∙ twice 1 (stop - j) (bs ++ at text i ∷ []) [] rest
    ∙ ap₂ (λ m x. with_bytes m x rest) (omega (arith, one, high))
    (append-nil (bs ++ at text i ∷ []) ∙ ap (λ x. bs ++ x) (sym last))

own_step : (text : List ℕ) (quote : Quote) (i j stop : ℕ) → i < j → j ≤ stop → i < length text
    → is_stop quote (at text i) ≡ false → Runs text quote (suc i) j stop → Runs text quote i j stop
own_step text quote i j stop low high inside own more bs =
    let rest = quoted_from text quote stop in
    let all = slice_more text i j low inside in
    elim (cases_Bool (is_blank (at text i))) [
      | inl blank ↦ one_blank text quote (blanks bs) i blank
          ∙ ap (with_bytes 1 []) (more (bs ++ at text i ∷ []))
          ∙ twice 1 (stop - suc i) [] ((bs ++ at text i ∷ []) ++ slice_range text (suc i) j) rest
          ∙ ap₂ (λ m x. with_bytes m x rest) (omega (arith, low, high))
          (append_assoc bs (at text i ∷ []) (slice_range text (suc i) j) ∙ ap (λ x. bs ++ x) (sym all))
      | inr dark ↦ ap (quoted_rest quote false (blanks bs)) (bytes_at text i inside)
          ∙ dark_by quote (blanks bs) (at text i) (drop (suc i) text) own dark
          ∙ ap (with_bytes 1 (bs ++ at text i ∷ [])) (more [])
          ∙ twice 1 (stop - suc i) (bs ++ at text i ∷ []) (slice_range text (suc i) j) rest
          ∙ ap₂ (λ m x. with_bytes m x rest) (omega (arith, low, high))
          (append_assoc bs (at text i ∷ []) (slice_range text (suc i) j) ∙ ap (λ x. bs ++ x) (sym all))
    ]

own_run : (text : List ℕ) (quote : Quote) (j stop : ℕ) → j ≤ stop → stop ≤ length text → (n i : ℕ) → i + suc n ≡ j
    → ((k : ℕ) → i ≤ k → k < j → is_stop quote (at text k) ≡ false) → is_blank (at text (j - 1)) ≡ false
    → ((bs : List ℕ) → quoted_rest quote false (blanks bs) (drop j text)
    ≡ with_bytes (stop - j) [] (quoted_from text quote stop))
    → Runs text quote i j stop
own_run text quote j stop high within zero i e own dark tail =
    let there : j - 1 ≡ i = omega (arith, e) in
    dark_last text quote i j stop (omega (arith, e)) high (omega (arith, e, high, within)) (own i (omega arith)
    (omega (arith, e)))
    (ap (λ k. is_blank (at text k)) (sym there) ∙ dark) tail
own_run text quote j stop high within (suc n) i e own dark tail =
    own_step text quote i j stop (omega (arith, e)) high (omega (arith, e, high, within)) (own i (omega arith)
    (omega (arith, e)))
    (own_run text quote j stop high within n (suc i) (omega (arith, e)) (λ k low high. own k (omega
    (arith, low)) high) dark
    tail)

-- a run up to a line feed, without the blanks at its end
pub run_to_feed : (text : List ℕ) (quote : Quote) (i j stop : ℕ) → i ≤ j → j ≤ stop → stop ≤ length text
    → IsRun text quote i stop → at text stop ≡ 10 → ((k : ℕ) → j ≤ k → k < stop → is_blank (at text k) ≡ true)
    → (i < j → is_blank (at text (j - 1)) ≡ false)
    → quoted_from text quote i ≡ with_bytes (stop - i) (slice_range text i j) (quoted_from text quote stop)
run_to_feed text quote i j stop low high within run feed blank dark =
    let there : j + (stop - j) ≡ stop = omega (arith, high) in
    let tail : (bs : List ℕ) → quoted_rest quote false (blanks bs) (drop j text)
    ≡ with_bytes (stop - j) [] (quoted_from text quote stop) =
    λ bs. blank_run text quote (stop - j) j (ap (at text) there ∙ feed)
    (λ k from to. blank k from (omega (arith, to, there))) bs
    ∙ ap (λ k. with_bytes (stop - j) [] (quoted_from text quote k)) there in
    elim (cases_lt i j) [
      | inl some ↦ own_run text quote j stop high within (j - suc i) i (omega (arith, some))
          (λ k from to. run k from (omega (arith, to, high))) (dark some) tail []
      | inr over ↦
          let same : j ≡ i = omega (arith, low, over) in
          subst (λ k. quoted_from text quote k ≡ with_bytes (stop - k) (slice_range text k j)
          (quoted_from text quote stop))
          same (tail [] ∙ ap (λ x. with_bytes (stop - j) x (quoted_from text quote stop)) (sym (slice_none text j)))
    ]

-- blanks but a carriage return
end_blank : (c : ℕ) → c ≢ 13 → is_end_blank c ≡ true → is_blank c ≡ true
end_blank c return e = grind (arith, return, e)

no_end_blank : (c : ℕ) → is_end_blank c ≡ false → is_blank c ≡ false
no_end_blank c e = grind (arith, e)

-- a part of a text from a place on
part_at : (text : List ℕ) (i j k : ℕ) → i ≤ k → k < j → at (take (j - i) (drop i text)) (k - i) ≡ at text k
part_at text i j k low high =
    let place : i + (k - i) ≡ k = omega (arith, low) in
    get_or-take (j - i) (drop i text) (k - i) 0 (omega (arith, low, high)) ∙ get_or-drop i text (k - i) 0
    ∙ ap (at text) place

-- the same run, by how many blanks end it
pub run_trimmed : (text : List ℕ) (quote : Quote) (i stop n : ℕ) → is_text text ≡ true → i ≤ stop → stop ≤ length text
    → IsRun text quote i stop → at text stop ≡ 10 → n ≤ length (take (stop - i) (drop i text))
    → ((k : ℕ) → length (take (stop - i) (drop i text)) - n ≤ k → k < length (take (stop - i) (drop i text))
    → is_end_blank (at (take (stop - i) (drop i text)) k) ≡ true)
    → (n < length (take (stop - i) (drop i text))
    → is_end_blank (at (take (stop - i) (drop i text)) (length (take (stop - i) (drop i text)) - 1 - n)) ≡ false)
    → quoted_from text quote i ≡ with_bytes (stop - i) (slice_range text i (stop - n)) (quoted_from text quote stop)
run_trimmed text quote i stop n h low within run feed few blank dark =
    let part = take (stop - i) (drop i text) in
    let all = length-drop i text in
    let size : length part ≡ stop - i = length-take-le (stop - i) (drop i text) (omega (arith, all, low, within)) in
    run_to_feed text quote i (stop - n) stop (omega (arith, few, size)) (omega arith) within run feed
    (λ k from to. end_blank (at text k) (no_return text k h)
    (ap is_end_blank (sym (part_at text i stop k (omega (arith, from, few, size)) to))
    ∙ blank (k - i) (omega (arith, from, few, size)) (omega (arith, to, from, few, size))))
    (λ some.
    let last : length part - 1 - n ≡ (stop - n - 1) - i = omega (arith, size, some) in
    no_end_blank (at text (stop - n - 1))
    (ap is_end_blank (sym (part_at text i stop (stop - n - 1) (omega (arith, some)) (omega (arith, some)))
    ∙ ap (at part) (sym last)) ∙ dark (omega (arith, size, some))))

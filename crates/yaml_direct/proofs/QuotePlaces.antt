-- What stands between quotes, from place to place.
use Rattle.std.proofs.Common.{ℕ, ◌+◌, ◌-◌, ◌<◌, ◌≤◌, ◌≡◌, ◌≢◌, ◌==◌, ◌&&◌, ◌⊎◌, inl, inr, Bool, true, false}
use Rattle.std.proofs.Common.{List, [], ◌∷◌, ◌++◌, Some, refl, sym, ap, ap₂, ◌∙◌, arith, subst, drop, take, length}
use Rattle.std.proofs.Common.{min, eqb-true, ne_eqb, length-drop, take-append-drop}
use Rattle.std.proofs.lemmas.Bool.{and_parts, cases_lt, false≢true}
use Rattle.std.proofs.lemmas.List.{drop-drop, drop_more, get_or-drop, get_or-take, get_or_past, length-take-le}
use Rattle.yaml_base.specs.QuotedLines.{none}
use Rattle.yaml_direct.specs.Bytes.{at}
use Rattle.yaml_direct.specs.Quoted.{Closes, EndsRun, IsRun, closed, is_other, is_stop, later}
use Rattle.yaml_direct.specs.Quoted.{Unquotes, quote_of, quoted_from, quoted_rest}
use Rattle.yaml_direct.specs.declared.quote.Quote.{Quote}
use Rattle.yaml_direct.specs.declared.quote.Quote.TheVariants.{Single, Double}
use Rattle.yaml_direct.proofs.QuoteLaws.{run_all}
use Rattle.yaml_direct.proofs.WithBytes.{twice}
use Rattle.yaml_grammar.specs.Bytes.{is_blank}
use Rattle.yaml_grammar.specs.Folding.{Rest, nothing_passed, with_bytes}
use Rattle.yaml_grammar.specs.Quotes.{double_rest, single_rest}

-- what stands for itself is read so
no_blank : (quote : Quote) (c : ℕ) → is_stop quote c ≡ true → c ≢ 10 → is_blank c ≡ false
no_blank Single c stop feed = grind (arith, stop, feed)
no_blank Double c stop feed = grind (arith, stop, feed)

first_of : (text : List ℕ) (j : ℕ) → at (drop j text) 0 ≡ at text j
first_of text j = get_or-drop j text 0 0 ∙ ap (at text) (omega arith)

dark_end : (text : List ℕ) (quote : Quote) (j : ℕ) → EndsRun text quote j → at text j ≢ 10
    → is_blank (at text j) ≡ false
dark_end text quote j (inl stop) feed = no_blank quote (at text j) stop feed
dark_end text quote j (inr ends) feed = rw (get_or_past text j 0 ends) refl

own_part : (text : List ℕ) (quote : Quote) (i j : ℕ) → IsRun text quote i j → (k : ℕ) → k < j - i
    → is_stop quote (at (take (j - i) (drop i text)) k) ≡ false
own_part text quote i j run k h =
    ap (is_stop quote) (get_or-take (j - i) (drop i text) k 0 h ∙ get_or-drop i text k 0)
    ∙ run (i + k) (omega arith) (omega (arith, h))

part_length : (text : List ℕ) (i j : ℕ) → i ≤ j → j ≤ length text → length (take (j - i) (drop i text)) ≡ j - i
part_length text i j forward within =
    let all = length-drop i text in length-take-le (j - i) (drop i text) (omega (arith, all, forward, within))

parted : (text : List ℕ) (i j : ℕ) → i ≤ j → drop i text ≡ take (j - i) (drop i text) ++ drop j text
parted text i j forward =
    sym (take-append-drop (j - i) (drop i text))
    ∙ ap (λ x. take (j - i) (drop i text) ++ x) (drop-drop (j - i) i text
    ∙ ap (λ n. drop n text) (omega (arith, forward)))

pub run_at : (text : List ℕ) (quote : Quote) (i j : ℕ) → i ≤ j → j ≤ length text → IsRun text quote i j
    → EndsRun text quote j → at text j ≢ 10
    → quoted_from text quote i ≡ with_bytes (j - i) (take (j - i) (drop i text)) (quoted_from text quote j)
run_at text quote i j forward within run ends feed =
    let part = take (j - i) (drop i text) in
    let size = part_length text i j forward within in
    ap (quoted_rest quote false nothing_passed) (parted text i j forward)
    ∙ run_all quote part (drop j text)
    (λ k h. own_part text quote i j run k (subst (λ n. k < n) size h))
    (ne_eqb (at (drop j text) 0) 10 (λ e. feed (sym (first_of text j) ∙ e)))
    (ap is_blank (first_of text j) ∙ dark_end text quote j ends feed) []
    ∙ ap (λ n. with_bytes n part (quoted_from text quote j)) size

-- the quote that closes
here_is : (text : List ℕ) (i : ℕ) → at text i ≢ 0 → i < length text
here_is text i some =
    elim (cases_lt i (length text)) [ inl h ↦ h | inr past ↦ absurd (some (get_or_past text i 0 past)) ]

closes_single : (cs : List ℕ) → (at cs 0 == 39) ≡ false
    → ◌≡◌ {A = Rest} (single_rest true false nothing_passed cs) (Some (0, []))
closes_single [] e = refl
closes_single (c ∷ cs) e = rw e refl

single_alone : (a b : Bool) → (a && b) ≡ false → a ≡ true → b ≡ false
single_alone true b e h = e
single_alone false b e h = absurd (false≢true h)

pub closed_at : (text : List ℕ) (quote : Quote) (i : ℕ) → at text i ≡ quote_of quote → is_other text quote i ≡ false
    → ◌≡◌ {A = Rest} (quoted_from text quote i) (Some (1, []))
closed_at text Single i is alone =
    let here = here_is text i (λ e. omega (arith, is, e)) in
    let next = single_alone _ _ alone (ap (λ c. c == 39) is) in
    ap (single_rest false false nothing_passed) (drop_more text i 0 here ∙ ap (λ c. c ∷ drop (i + 1) text) is)
    ∙ ap (with_bytes 1 []) (closes_single (drop (i + 1) text) (ap (λ c. c == 39) (first_of text (i + 1)) ∙ next))
closed_at text Double i is alone =
    let here = here_is text i (λ e. omega (arith, is, e)) in
    ap (double_rest none false nothing_passed) (drop_more text i 0 here ∙ ap (λ c. c ∷ drop (i + 1) text) is)

-- two quotes
pub doubled_at : (text : List ℕ) (i : ℕ) → is_other text Single i ≡ true
    → quoted_from text Single i ≡ with_bytes 2 (39 ∷ []) (quoted_from text Single (i + 2))
doubled_at text i other =
    let parts = and_parts _ _ other in
    let one : at text i ≡ 39 = eqb-true (at text i) 39 parts.0 in
    let two : at text (i + 1) ≡ 39 = eqb-true (at text (i + 1)) 39 parts.1 in
    let here = here_is text i (λ e. omega (arith, one, e)) in
    let next = here_is text (i + 1) (λ e. omega (arith, two, e)) in
    let place : i + 1 + 1 ≡ i + 2 = omega arith in
    ap (single_rest false false nothing_passed)
    (drop_more text i 0 here ∙ ap₂ (λ c cs. c ∷ cs) one
    (drop_more text (i + 1) 0 next ∙ ap₂ (λ c j. c ∷ drop j text) two place))
    ∙ twice 1 1 [] (39 ∷ []) (quoted_from text Single (i + 2))

-- where a run ends
other_stops : (text : List ℕ) (quote : Quote) (i : ℕ) → is_other text quote i ≡ true → is_stop quote (at text i) ≡ true
other_stops text Single i other =
    let is : at text i ≡ 39 = eqb-true (at text i) 39 (and_parts _ _ other).0 in rw is refl
other_stops text Double i other =
    let is : at text i ≡ 92 = eqb-true (at text i) 92 (and_parts _ _ other).0 in rw is refl

pub closes_stop : (text : List ℕ) (quote : Quote) (i j : ℕ) → Closes text quote i j → is_stop quote (at text i) ≡ true
closes_stop text Single i j (closed is alone) = rw is refl
closes_stop text Double i j (closed is alone) = rw is refl
closes_stop text quote i j (later k other forward run more) = other_stops text quote i other

pub closes_forward : (text : List ℕ) (quote : Quote) (i j : ℕ) → Closes text quote i j → i ≤ j
closes_forward text quote i j (closed is alone) = omega arith
closes_forward text quote i j (later k other forward run more) =
    let h = closes_forward text quote k j more in omega (arith, h, forward)

same_by : (text : List ℕ) (quote : Quote) (i j m : ℕ) → i ≤ j → m < length text → EndsRun text quote j
    → IsRun text quote i m → j ≤ m → (j < m) ⊎ (m ≤ j) → j ≡ m
same_by text quote i j m forward here ends run' le (inr ge) = omega (arith, le, ge)
same_by text quote i j m forward here (inl stops) run' le (inl less) =
    absurd (false≢true (sym (run' j forward less) ∙ stops))
same_by text quote i j m forward here (inr past) run' le (inl less) = absurd (omega (arith, past, less, here))

pub same_end : (text : List ℕ) (quote : Quote) (i j m : ℕ) → i ≤ j → i ≤ m → IsRun text quote i j
    → EndsRun text quote j → m < length text → IsRun text quote i m → is_stop quote (at text m) ≡ true → j ≡ m
same_end text quote i j m forward forward' run ends here run' stop =
    elim (cases_lt m j) [
      | inl less ↦ absurd (false≢true (sym (run m forward' less) ∙ stop))
      | inr le ↦ same_by text quote i j m forward here ends run' le (cases_lt j m)
    ]

-- a doubled quote
other_within : (text : List ℕ) (i : ℕ) → is_other text Single i ≡ true → i + 2 ≤ length text
other_within text i other =
    let parts = and_parts _ _ other in
    let two : at text (i + 1) ≡ 39 = eqb-true (at text (i + 1)) 39 parts.1 in
    let next = here_is text (i + 1) (λ e. omega (arith, two, e)) in omega (arith, next)

pub unquotes_doubled : (text : List ℕ) (quote : Quote) (i j : ℕ) (old new : List ℕ) → Single ≡ quote
    → is_other text quote i ≡ true → j ≡ min (i + 2) (length text) → new ≡ old ++ 39 ∷ []
    → Unquotes text quote i j old new
unquotes_doubled text quote i j old new single other place added =
    let other' : is_other text Single i ≡ true = subst (λ q. is_other text q i ≡ true) (sym single) other in
    let within = other_within text i other' in
    let same : j ≡ i + 2 = omega (arith, place, within) in
    subst (λ q. Unquotes text q i j old new) single (record {
      said = 39 ∷ [];
      added = added;
      rest = doubled_at text i other'
          ∙ ap₂ (λ n k. with_bytes n (39 ∷ []) (quoted_from text Single k)) (omega (arith, same)) (sym same);
    })

pub run_doubled : (text : List ℕ) (quote : Quote) (i j : ℕ) → Single ≡ quote → is_other text quote i ≡ true
    → j ≡ min (i + 2) (length text) → (i + 2 ≤ j) × IsRun text quote (i + 2) j
run_doubled text quote i j single other place =
    let within = other_within text i (subst (λ q. is_other text q i ≡ true) (sym single) other) in (
      omega (arith, place, within),
      λ k low high. absurd (omega (arith, low, high, place)),
    )

-- what closes a scalar in its line, taken apart
pub closes_here : (text : List ℕ) (quote : Quote) (i : ℕ) → is_stop quote (at text i) ≡ true → i < length text
closes_here text quote i stop =
    here_is text i (λ e. false≢true (sym (no_stop quote) ∙ ap (is_stop quote) (sym e) ∙ stop))
  where
    no_stop : (q : Quote) → is_stop q 0 ≡ false
    no_stop Single = refl
    no_stop Double = refl

other_no_feed : (text : List ℕ) (quote : Quote) (i : ℕ) → is_other text quote i ≡ true → at text i ≢ 10
other_no_feed text Single i other feed =
    let is : at text i ≡ 39 = eqb-true (at text i) 39 (and_parts _ _ other).0 in omega (arith, is, feed)
other_no_feed text Double i other feed =
    let is : at text i ≡ 92 = eqb-true (at text i) 92 (and_parts _ _ other).0 in omega (arith, is, feed)

pub closes_no_feed : (text : List ℕ) (quote : Quote) (i j : ℕ) → Closes text quote i j → at text i ≢ 10
closes_no_feed text Single i j (closed is alone) feed = omega (arith, is, feed)
closes_no_feed text Double i j (closed is alone) feed = omega (arith, is, feed)
closes_no_feed text quote i j (later k other forward run more) feed = other_no_feed text quote i other feed

pub record Later (text : List ℕ) (quote : Quote) (i j : ℕ) : Type 0 where
  pub next : ℕ
  pub other : is_other text quote i ≡ true
  pub forward : i + 2 ≤ next
  pub run : IsRun text quote (i + 2) next
  pub closes : Closes text quote next j

pub closes_later : (text : List ℕ) (quote : Quote) (i j : ℕ) → i < j → Closes text quote i j → Later text quote i j
closes_later text quote i j less (closed is alone) = absurd (omega (arith, less))
closes_later text quote i j less (later k other forward run more) =
    record { next = k; other = other; forward = forward; run = run; closes = more }

pub closes_now : (text : List ℕ) (quote : Quote) (i j : ℕ) → j ≤ i → Closes text quote i j
    → (at text i ≡ quote_of quote) × (is_other text quote i ≡ false)
closes_now text quote i j le (closed is alone) = (is, alone)
closes_now text quote i j le (later k other forward run more) =
    let h = closes_forward text quote k j more in absurd (omega (arith, le, forward, h))

-- Where a search finds the end of a run.
use Rattle.std.proofs.Common.{ℕ, ◌+◌, ◌-◌, ◌<◌, ◌≤◌, ◌≡◌, inl, Bool, true, false, List, refl, sym, ◌∙◌, ap, arith}
use Rattle.std.proofs.Common.{drop, take}
use Rattle.std.proofs.lemmas.List.{get_or-drop, get_or-take}
use Rattle.memchr.specs.Find.{Nowhere, Passes}
use Rattle.yaml_direct.specs.Bytes.{at}
use Rattle.yaml_direct.specs.Quoted.{EndsRun, IsRun, is_stop}
use Rattle.yaml_direct.specs.declared.quote.Quote.{Quote}

in_part : (text : List ℕ) (from n k : ℕ) → k < n → at (take n (drop from text)) k ≡ at text (from + k)
in_part text from n k h = get_or-take n (drop from text) k 0 h ∙ get_or-drop from text k 0

not_so : (b : Bool) → (b ≡ true → ⊥) → b ≡ false
not_so true h = absurd (h refl)
not_so false h = refl

pub run_found : (text : List ℕ) (quote : Quote) (from n len : ℕ) → len ≤ n
    → Nowhere (Passes (is_stop quote) (take n (drop from text))) 0 len → IsRun text quote from (from + len)
run_found text quote from n len few nowhere k low high =
    let place : from + (k - from) ≡ k = omega (arith, low) in
    let same = in_part text from n (k - from) (omega (arith, low, high, few)) in
    not_so (is_stop quote (at text k))
    (λ e. nowhere (k - from) (omega arith) (omega (arith, low, high))
    (ap (is_stop quote) (same ∙ ap (at text) place) ∙ e))

pub end_found : (text : List ℕ) (quote : Quote) (from n len : ℕ) → len < n
    → Passes (is_stop quote) (take n (drop from text)) len → EndsRun text quote (from + len)
end_found text quote from n len here passes =
    inl (ap (is_stop quote) (sym (in_part text from n len here)) ∙ passes)

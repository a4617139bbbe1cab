-- Parts of the bytes of a text.
use Rattle.std.proofs.Common.{◌≡◌, ◌≤◌, ◌+◌, ◌-◌, ◌∙◌, List, ap, arith, drop, sym, take, ℕ, false}
use Rattle.std.proofs.lemmas.List.{drop-drop}
use Rattle.std.proofs.lemmas.Slice.{between_is}
use Rattle.std.specs.Prelude.{slice_range}
use Rattle.yaml_checked.specs.inner.EntryStands.{its_text, source_on}
use Rattle.yaml_tape.specs.OnTape.{kept_in}
use Rattle.yaml_tape.specs.declared.entry.Entry.{Entry}
use Rattle.yaml_tape.specs.declared.tape.Tape.{Tape}

-- the last part of a range
last_part : (text : List ℕ) (i k j : ℕ) → i ≤ k → drop (k - i) (slice_range text i j) ≡ slice_range text k j
last_part text i k j low =
    let there : i + (k - i) ≡ k = omega arith in
    ap (drop (k - i)) (between_is text i j) ∙ drop-drop (k - i) i (take j text)
    ∙ ap (λ n. drop n (take j text)) there ∙ sym (between_is text k j)

-- the text of an entry that ends its source
pub text_at_end : (t : Tape) (e : Entry) (source value : List ℕ) → source ≡ source_on t e → e.stored ≡ false
    → e.to ≡ e.end → e.index ≤ e.from → value ≡ drop (e.from - e.index) source → value ≡ its_text t e
text_at_end t e source value is shown ends low at =
    at ∙ ap (drop (e.from - e.index)) is ∙ last_part t.text.now e.index e.from e.end low
    ∙ ap (slice_range t.text.now e.from) (sym ends)
    ∙ ap (λ b. slice_range (kept_in t.text.now t.arena.items b) e.from e.to) (sym shown)

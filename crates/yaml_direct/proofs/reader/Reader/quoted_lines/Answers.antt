-- A run and what stands behind it, and the quote that closes all.
use Rattle.std.proofs.Common.{◌≡◌, ◌∙◌, ◌+◌, ◌-◌, ◌≤◌, ◌==◌, None, Some, ap, ap₂, arith, false, length, not, refl}
use Rattle.std.proofs.Common.{slice_range, subst, sym, true}
use Rattle.std.proofs.lemmas.Bool.{and_left, and_right, ne_eqb}
use Rattle.yaml_direct.specs.Added.{AddsScalar}
use Rattle.yaml_direct.specs.Quoted.{EndsRun, Unquotes, is_closing, quote_of, quoted_from}
use Rattle.yaml_direct.proofs.Growing.{grows_on, grows_same}
use Rattle.yaml_direct.proofs.PlainLeaves.{adds_scalar_from}
use Rattle.yaml_direct.proofs.QuoteBreaks.{over_unread, read_closed, read_none, read_on}
use Rattle.yaml_direct.proofs.WithBytes.{no_bytes}
use Rattle.yaml_direct.proofs.reader.Reader.quoted_lines.Goals as goal
use Rattle.yaml_direct.proofs.reader.Reader.quoted_lines.Goals.{else-at-byte-via-then-at-byte+else-not-stands_for_another}
use Rattle.yaml_direct.proofs.reader.Reader.quoted_lines.Goals.{else-at-byte-via-else-at-byte}
use Rattle.yaml_grammar.specs.Bytes.{at, is_text}
use Rattle.yaml_grammar.specs.Folding.{Rest, with_bytes}

pub runs-init : goal.runs-init
runs-init c =
    let self = c.args.self.now in
    let rest = quoted_from self.text.now c.args.quote (c.args.from + 1) in
    record {
      grows = grows_same self self refl;
      forward = omega arith;
      here = omega (arith, c.requires.here.0);
      within = omega (arith, c.requires.within);
      text = refl;
      start = refl;
      tape = refl;
      names = refl;
      read = λ h. sym (no_bytes rest)
          ∙ ap₂ (λ n s. with_bytes n s rest) (omega arith) (sym c.new-value.ensures.items);
    }

pub returns-then-not-stands_for_another-clause-found : goal.returns-then-not-stands_for_another-clause-found
returns-then-not-stands_for_another-clause-found c =
    let self = c.args.self.now in
    let text = self.text.now in
    let b = c.args.from + 1 in
    let i = c.runs.invariant in
    let run = c.run_end-stop.ensures in
    let stop = c.run_end-stop.result in
    let new = c.push_scalar.new.self in
    let value = c.extend_from_slice.new.self.items in
    λ h some.
    let there = c.push_scalar.ensures.there some in
    let read = read_on text c.args.quote b c.runs.place stop c.runs.value.items
    (slice_range text c.runs.place c.run_text_end-kept.result) value i.forward run.forward (i.read h)
    (c.run_text_end-kept.ensures.says h c.args.quote run.run run.ends) c.in-Ok.ensures.items in
    record {
      said = value;
      read = read_closed text c.args.quote b stop value (omega (arith, i.forward, run.forward)) read
          (sym c.at.ensures.value ∙ (c.if-at-byte.true ∙ c.byte.ensures.quote))
          (sym c.stands_for_another.ensures.value ∙ c.if-not-stands_for_another.true)
          ∙ ap (λ n. Some (n - b, value)) (sym there);
      added = subst (λ s. AddsScalar self new value s c.push_scalar.result) c.style.ensures
          (subst (λ e. AddsScalar self new value c.style.result e) (sym there)
          (adds_scalar_from self c.runs.self new value c.style.result (stop + 1) i.tape i.text i.start i.names
          (c.push_scalar.ensures.added some)));
    }

pub returns-then-place-clause-missed : goal.returns-then-place-clause-missed
returns-then-place-clause-missed c =
    let text = c.args.self.now.text.now in
    let b = c.args.from + 1 in
    let i = c.runs.invariant in
    let run = c.run_end-stop.ensures in
    let stop = c.run_end-stop.result in
    let value = c.extend_from_slice.new.self.items in
    let shut : is_closing text c.args.quote stop ≡ false = elim c.else-at-byte.branch [
      | else-at-byte-via-then-at-byte+else-not-stands_for_another w ↦
          and_right (at text stop == quote_of c.args.quote) _
          (ap not (sym w.stands_for_another.ensures.value ∙ w.if-not-stands_for_another.false))
      | else-at-byte-via-else-at-byte w ↦
          and_left (at text stop == quote_of c.args.quote) _ (ne_eqb (at text stop) (quote_of c.args.quote)
          (λ e. w.if-at-byte.false (c.at.ensures.value ∙ (e ∙ sym c.byte.ensures.quote))))
    ] in
    λ h none fed.
    let h' = subst (λ t. is_text t ≡ true) (sym i.text) h in
    let read = read_on text c.args.quote b c.runs.place stop c.runs.value.items
    (slice_range text c.runs.place c.run_text_end-kept.result) value i.forward run.forward (i.read h)
    (c.run_text_end-kept.ensures.says h c.args.quote run.run run.ends) c.in-Ok.ensures.items in
    read_none text c.args.quote b stop value read
    (subst (λ t. ◌≡◌ {A = Rest} (quoted_from t c.args.quote stop) None) i.text
    (c.quoted_other-place.ensures.missed h' (subst (λ t. EndsRun t c.args.quote stop) (sym i.text) run.ends)
    (subst (λ t. is_closing t c.args.quote stop ≡ false) (sym i.text) shut) c.if-place.true fed))

pub runs-preserved : goal.runs-preserved
runs-preserved c =
    let text = c.args.self.now.text.now in
    let b = c.args.from + 1 in
    let i = c.runs.invariant in
    let run = c.run_end-stop.ensures in
    let stop = c.run_end-stop.result in
    let value = c.extend_from_slice.new.self.items in
    let other = c.quoted_other-place.ensures in
    let to = c.quoted_other-place.result in
    let o = other.reached.1.1 c.if-place.false in
    record {
      grows = grows_on c.args.self.now c.runs.self c.quoted_other-place.new.self i.grows other.reached.1.0;
      forward = omega (arith, i.forward, run.forward, o.0);
      here = o.1.0;
      within = subst (λ t. to ≤ length t) i.text o.1.1;
      text = other.reached.0 ∙ i.text;
      start = other.start ∙ i.start;
      tape = other.still ∙ i.tape;
      names = other.names ∙ i.names;
      read = λ h.
          let h' = subst (λ t. is_text t ≡ true) (sym i.text) h in
          let read = read_on text c.args.quote b c.runs.place stop c.runs.value.items
          (slice_range text c.runs.place c.run_text_end-kept.result) value i.forward run.forward (i.read h)
          (c.run_text_end-kept.ensures.says h c.args.quote run.run run.ends) c.in-Ok.ensures.items in
          let u = subst (λ t. Unquotes t c.args.quote stop to value c.quoted_other-place.new.value.items) i.text
          (other.found h' (subst (λ t. EndsRun t c.args.quote stop) (sym i.text) run.ends) c.if-place.false) in
          read_on text c.args.quote b stop to value u.said c.quoted_other-place.new.value.items
          (omega (arith, i.forward, run.forward)) (omega (arith, o.0)) read u.rest u.added;
    }

pub returns-clause-missed : goal.returns-clause-missed
returns-clause-missed c =
    let text = c.args.self.now.text.now in
    λ h none fed. read_none text c.args.quote (c.args.from + 1) c.runs.place c.runs.value.items
    (c.runs.invariant.read h)
    (over_unread text c.args.quote c.runs.place c.runs-test.false)

-- A line more, and the end.
use Rattle.std.proofs.Common.{arith, inl, inr, length, refl, subst, sym, true, false, ◌≡◌, ◌∙◌, ◌≤◌, ◌<◌, ◌⊎◌, ap}
use Rattle.std.proofs.Common.{not, ◌&&◌}
use Rattle.std.proofs.lemmas.Bool.{and_left, and_right, cases_eq, false≢true}
use Rattle.yaml_base.specs.declared.event.ScalarStyle.TheVariants as style
use Rattle.yaml_direct.specs.Bytes as code
use Rattle.yaml_direct.specs.Places.{no_place}
use Rattle.yaml_direct.specs.PlainTexts.{HasNoLine, IsFurtherLine}
use Rattle.yaml_direct.specs.Tokens.{HasNoToken}
use Rattle.yaml_direct.proofs.FlowLeaves.{FlowSoFar, colon_left, cut_left, flow_first, flow_on, flow_read, gap_left}
use Rattle.yaml_direct.proofs.Growing.{grows_on, grows_same}
use Rattle.yaml_direct.proofs.PlainLeaves.{adds_scalar_from}
use Rattle.yaml_direct.proofs.ReaderLaws.{no_such_place}
use Rattle.yaml_direct.proofs.reader.Reader.push_flow_lines.Goals as goal
use Rattle.yaml_direct.proofs.reader.Reader.push_flow_lines.Goals.{then-lines-test+else-not-is_bracket, else-lines-test}
use Rattle.yaml_grammar.specs.Bytes.{at, is_over, is_text}
use Rattle.yaml_grammar.specs.Gaps.{breaks, next}

pub lines-init : goal.lines-init
lines-init c =
    let self = c.args.self.now in
    let text = self.text.now in
    let part = c.requires.part in
    let here = c.requires.here in
    record {
      grows = grows_same self self refl;
      forward = omega arith;
      low = part.1;
      here = here.0;
      within = c.requires.within;
      text = refl;
      start = refl;
      part = omega arith;
      tape = refl;
      names = refl;
      said = λ h b. subst (λ x. FlowSoFar text c.args.from c.args.first c.args.second true x)
          (sym c.in-Ok.ensures.items)
          (flow_first text c.args.from c.args.first c.args.second h b part.0 (omega (arith, part.1, here.1)));
    }

pub returns-then-place-clause-missed : goal.returns-then-place-clause-missed
returns-then-place-clause-missed c =
    let text = c.args.self.now.text.now in
    let i = c.lines.invariant in
    let byte : c.at.result ≡ at text c.lines.next = c.at.ensures.value ∙ ap (λ t. at t c.lines.next) i.text in
    λ h b none fed.
    let h' = subst (λ t. is_text t ≡ true) (sym i.text) h in
    cut_left text c.args.from c.args.first c.args.second c.lines.end c.lines.next c.lines.value.items c.lines.broken h b
    c.requires.part.0 i.forward (i.said h b)
    (ap code.is_bracket (sym byte) ∙ (sym c.is_bracket.ensures ∙ c.if-not-is_bracket.true))
    (subst (λ t. HasNoLine t true c.lines.end c.lines.next) i.text
    (c.plain_line-place.ensures.missed h' c.if-place.true fed))

pub returns-then-place-2-clause-missed : goal.returns-then-place-2-clause-missed
returns-then-place-2-clause-missed c =
    let text = c.args.self.now.text.now in
    let i = c.lines.invariant in
    let line = c.plain_line-place.ensures in
    let p = line.reached.1.1 c.if-place.false in
    let stop = c.plain_line-place.result in
    let same = line.kept.0 ∙ i.text in
    λ h b none fed.
    let h' = subst (λ t. is_text t ≡ true) (sym i.text) h in
    let h'' = subst (λ t. is_text t ≡ true) (sym same) h in
    let says = flow_on text c.args.from c.lines.end c.lines.next stop c.lines.value.items
    c.plain_line-place.new.value.items c.lines.broken h (i.said h b) c.lines-test.true
    (subst (λ t. IsFurtherLine t true c.lines.end c.lines.next stop c.lines.value.items
    c.plain_line-place.new.value.items) i.text (line.found h' c.if-place.false))
    (omega (arith, p.0)) (subst (λ t. stop ≤ length t) i.text p.1.1) in
    gap_left text c.args.from c.args.first c.args.second stop c.plain_line-place.new.value.items h b c.requires.part.0
    (omega (arith, i.forward, p.0)) says
    (subst (λ t. HasNoToken t stop ⊎ (is_over t (next t stop) ≡ true)) same
    (c.flow_gap-place.ensures.missed h'' (λ _. omega (arith, line.kept.1.0, i.here, p.0)) c.if-place-2.true))

pub lines-preserved : goal.lines-preserved
lines-preserved c =
    let text = c.args.self.now.text.now in
    let i = c.lines.invariant in
    let line = c.plain_line-place.ensures in
    let gap = c.flow_gap-place.ensures in
    let p = line.reached.1.1 c.if-place.false in
    let g = gap.reached.1.1 c.if-place-2.false in
    let stop = c.plain_line-place.result in
    let same = line.kept.0 ∙ i.text in
    record {
      grows = grows_on c.args.self.now c.lines.self c.flow_gap-place.new.self i.grows
          (grows_on c.lines.self c.plain_line-place.new.self c.flow_gap-place.new.self line.kept.1.1.1 gap.reached.1.0);
      forward = omega (arith, i.forward, p.0, g.0);
      low = g.0;
      here = g.1.0;
      within = subst (λ t. c.flow_gap-place.result < length t) (sym gap.reached.0) (gap.inside c.if-place-2.false);
      text = gap.reached.0 ∙ same;
      start = gap.start ∙ (line.kept.1.1.0 ∙ i.start);
      part = omega (arith, i.part, i.low, p.0);
      tape = gap.still ∙ (line.still ∙ i.tape);
      names = gap.names ∙ (line.names ∙ i.names);
      said = λ h b.
          let h' = subst (λ t. is_text t ≡ true) (sym i.text) h in
          let h'' = subst (λ t. is_text t ≡ true) (sym same) h in
          let found = gap.found h'' c.if-place-2.false in
          record {
            says = flow_on text c.args.from c.lines.end c.lines.next stop c.lines.value.items
                c.plain_line-place.new.value.items c.lines.broken h (i.said h b) c.lines-test.true
                (subst (λ t. IsFurtherLine t true c.lines.end c.lines.next stop c.lines.value.items
                c.plain_line-place.new.value.items) i.text (line.found h' c.if-place.false))
                (omega (arith, p.0)) (subst (λ t. stop ≤ length t) i.text p.1.1);
            there = subst (λ t. c.flow_gap-place.result ≡ next t stop) same found.there;
            lines = found.lines ∙ ap (λ t. breaks t stop) same;
            here = λ later. subst (λ t. is_over t c.flow_gap-place.result ≡ false) same
                (gap.there h'' (λ whole. absurd (false≢true (sym whole ∙ (sym found.lines
                ∙ later)))) c.if-place-2.false);
          };
    }

pub returns-clause-found : goal.returns-clause-found
returns-clause-found c =
    let text = c.args.self.now.text.now in
    let i = c.lines.invariant in
    let push = c.push_scalar.ensures in
    let over : (c.lines.broken && not (code.is_bracket (at text c.lines.next))) ≡ false = elim c.lines-test.branch [
      | then-lines-test+else-not-is_bracket w ↦
          let byte : w.at.result ≡ at text c.lines.next = w.at.ensures.value ∙ ap (λ t. at t c.lines.next) i.text in
          and_right c.lines.broken _
          (ap not (ap code.is_bracket (sym byte) ∙ (sym w.is_bracket.ensures ∙ w.if-not-is_bracket.false)))
      | else-lines-test w ↦ and_left c.lines.broken _ w.lines-test.false
    ] in
    λ h b some other.
    let s = i.said h b in
    record {
      end = c.lines.end;
      said = c.lines.value.items;
      low = s.says.low;
      read = flow_read text c.args.from c.lines.end c.lines.next c.lines.value.items c.lines.broken h s over
          (λ colon. other (ap (at text) (push.there some) ∙ colon));
      added = adds_scalar_from c.args.self.now c.lines.self c.push_scalar.new.self c.lines.value.items style.Plain
          c.lines.end i.tape i.text i.start i.names (push.added some);
      there = push.there some ∙ s.there;
    }

pub returns-clause-missed : goal.returns-clause-missed
returns-clause-missed c =
    let text = c.args.self.now.text.now in
    let i = c.lines.invariant in
    let push = c.push_scalar.ensures in
    let over : (c.lines.broken && not (code.is_bracket (at text c.lines.next))) ≡ false = elim c.lines-test.branch [
      | then-lines-test+else-not-is_bracket w ↦
          let byte : w.at.result ≡ at text c.lines.next = w.at.ensures.value ∙ ap (λ t. at t c.lines.next) i.text in
          and_right c.lines.broken _
          (ap not (ap code.is_bracket (sym byte) ∙ (sym w.is_bracket.ensures ∙ w.if-not-is_bracket.false)))
      | else-lines-test w ↦ and_left c.lines.broken _ w.lines-test.false
    ] in
    λ h b e fed. elim (cases_eq c.push_scalar.result no_place) [
      | inl none ↦ absurd (false≢true (sym fed ∙ push.starved
          (λ z. no_such_place c.lines.self c.lines.next (omega (arith, i.within)) z) none))
      | inr some ↦
          let colon : at text c.push_scalar.result ≡ 58 = elim e [ inl none ↦ absurd (some none) | inr is ↦ is ] in
          colon_left text c.args.from c.args.first c.args.second c.lines.end c.lines.next c.lines.value.items
          c.lines.broken h b c.requires.part.0 i.forward (i.said h b) over (ap (at text) (sym (push.there some))
          ∙ colon)
    ]

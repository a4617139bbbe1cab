-- A line more, and the end.
use Rattle.std.proofs.Common.{arith, false, length, refl, subst, sym, true, ◌≡◌, ◌∙◌, ◌≤◌}
use Rattle.yaml_direct.specs.PlainTexts.{HasNoLine}
use Rattle.yaml_direct.specs.Tokens.{IsBehindLine}
use Rattle.yaml_direct.proofs.Growing.{grows_on, grows_same}
use Rattle.yaml_direct.proofs.PlainLeaves.{PlainSoFar, cut_left, line_behind, line_left, line_on, plain_added}
use Rattle.yaml_direct.proofs.PlainLeaves.{plain_first}
use Rattle.yaml_direct.proofs.PlainLeaves.{within_here}
use Rattle.yaml_direct.proofs.reader.Reader.plain_lines.Goals as goal
use Rattle.yaml_grammar.specs.Bytes.{is_text}
use Rattle.yaml_grammar.specs.Gaps.{ends_its_line}

pub lines-init : goal.lines-init
lines-init c =
    let self = c.args.self.now in
    let text = self.text.now in
    let part = c.requires.part in
    let here = c.requires.here in
    record {
      grows = grows_same self self refl;
      forward = omega arith;
      low = part.1;
      here = here.0;
      within = here.1;
      text = refl;
      start = refl;
      part = omega arith;
      tape = refl;
      names = refl;
      said = λ h f b. subst (λ x. PlainSoFar text self c.args.least c.args.from c.args.first c.args.second x)
          (sym c.in-Ok.ensures.items)
          (plain_first text self c.args.least c.args.from c.args.first c.args.second h f b part.0
          (omega (arith, part.1, here.1)));
    }

pub returns-then-place-clause-found : goal.returns-then-place-clause-found
returns-then-place-clause-found c = λ h f b some. absurd (some refl)

pub returns-then-place-clause-missed : goal.returns-then-place-clause-missed
returns-then-place-clause-missed c =
    let text = c.args.self.now.text.now in
    let i = c.lines.invariant in
    λ h f b none fed.
    let s = i.said h f b in
    let h' = subst (λ t. is_text t ≡ true) (sym i.text) h in
    cut_left text c.args.least c.args.from c.lines.end c.lines.next c.lines.value.items h s.says s.behind.there
    (within_here text c.lines.self c.args.least c.lines.next c.is_within.result i.text
    (c.is_within.ensures.same h' s.behind.counted) c.lines-test.true)
    (subst (λ t. HasNoLine t false c.lines.end c.lines.next) i.text
    (c.plain_line-place.ensures.missed h' c.if-place.true fed))

pub returns-then-place-2-clause-found : goal.returns-then-place-2-clause-found
returns-then-place-2-clause-found c = λ h f b some. absurd (some refl)

pub returns-then-place-2-clause-missed : goal.returns-then-place-2-clause-missed
returns-then-place-2-clause-missed c =
    let text = c.args.self.now.text.now in
    let i = c.lines.invariant in
    let line = c.plain_line-place.ensures in
    let p = line.reached.1.1 c.if-place.false in
    let same = line.kept.0 ∙ i.text in
    λ h f b none fed.
    let s = i.said h f b in
    let h' = subst (λ t. is_text t ≡ true) (sym i.text) h in
    let says = line_on text c.lines.self c.args.least c.args.from c.lines.end c.lines.next c.plain_line-place.result
    c.lines.value.items c.plain_line-place.new.value.items h s i.text c.is_within.result
    (c.is_within.ensures.same h' s.behind.counted) c.lines-test.true (line.found h' c.if-place.false) p.0 p.1.1 in
    line_left text c.args.least c.args.from c.plain_line-place.result c.plain_line-place.new.value.items h says
    (subst (λ t. ends_its_line t c.plain_line-place.result ≡ false) same
    (c.margin-place.ensures.missed (subst (λ t. is_text t ≡ true) (sym same) h) c.if-place-2.true))

pub lines-preserved : goal.lines-preserved
lines-preserved c =
    let text = c.args.self.now.text.now in
    let i = c.lines.invariant in
    let line = c.plain_line-place.ensures in
    let margin = c.margin-place.ensures in
    let p = line.reached.1.1 c.if-place.false in
    let m = margin.reached.1.1 c.if-place-2.false in
    let same = line.kept.0 ∙ i.text in
    record {
      grows = grows_on c.args.self.now c.lines.self c.margin-place.new.self i.grows
          (grows_on c.lines.self c.plain_line-place.new.self c.margin-place.new.self line.kept.1.1.1
          margin.reached.1.0);
      forward = omega (arith, i.forward, p.0, m.0);
      low = m.0;
      here = m.1.0;
      within = subst (λ t. c.margin-place.result ≤ length t) (sym margin.reached.0) m.1.1;
      text = margin.reached.0 ∙ same;
      start = margin.start ∙ (line.kept.1.1.0 ∙ i.start);
      part = omega (arith, i.part, i.low, p.0);
      tape = margin.still ∙ (line.still ∙ i.tape);
      names = margin.names ∙ (line.names ∙ i.names);
      said = λ h f b.
          let s = i.said h f b in
          let h' = subst (λ t. is_text t ≡ true) (sym i.text) h in
          let h'' = subst (λ t. is_text t ≡ true) (sym same) h in
          record {
            says = line_on text c.lines.self c.args.least c.args.from c.lines.end c.lines.next c.plain_line-place.result
                c.lines.value.items c.plain_line-place.new.value.items h s i.text c.is_within.result
                (c.is_within.ensures.same h' s.behind.counted) c.lines-test.true
                (line.found h' c.if-place.false) p.0 p.1.1;
            behind = subst (λ t. IsBehindLine t c.margin-place.new.self c.plain_line-place.result
                c.margin-place.result) same
                (line_behind c.plain_line-place.new.self c.margin-place.new.self c.plain_line-place.result
                c.margin-place.result (margin.found h'' c.if-place-2.false) margin.reached.0
                (margin.ended h'' c.if-place-2.false) m.1.1);
          };
    }

pub returns-clause-found : goal.returns-clause-found
returns-clause-found c =
    let text = c.args.self.now.text.now in
    let i = c.lines.invariant in
    let push = c.push_scalar.ensures in
    λ h f b some.
    let s = i.said h f b in
    let h' = subst (λ t. is_text t ≡ true) (sym i.text) h in
    plain_added c.args.self.now c.lines.self c.push_scalar.new.self c.args.least c.args.from c.lines.end c.lines.next
    c.push_scalar.result c.lines.value.items h s
    (within_here text c.lines.self c.args.least c.lines.next c.is_within.result i.text
    (c.is_within.ensures.same h' s.behind.counted) c.lines-test.false)
    i.tape i.text i.start i.names push.kept (push.there some) (push.added some)

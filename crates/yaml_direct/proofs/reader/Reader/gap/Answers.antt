use Rattle.std.proofs.Common.{◌≡◌, ◌==◌, ◌||◌, not, true, refl, sym, subst, ◌∙◌, arith}
use Rattle.yaml_direct.specs.Gaps.{Gap, a_blank, a_comment, a_line_feed, a_return}
use Rattle.yaml_direct.proofs.GapLaws.{behind_end, counted, or_true, whole_gap}
use Rattle.yaml_direct.proofs.GapTurns.{apart_behind, feed_on, goes_comment, goes_feed, goes_space, no_byte, no_sharp}
use Rattle.yaml_direct.proofs.GapTurns.{space_on}
use Rattle.yaml_direct.proofs.NextLaws.{over_here, token_here}
use Rattle.yaml_direct.proofs.ReaderLaws.{no_such_place, no_token, reaches_next}
use Rattle.yaml_direct.proofs.TextLaws.{no_return}
use Rattle.yaml_direct.proofs.reader.Reader.gap.Goals as goal
use Rattle.yaml_grammar.specs.Bytes.{at}

pub gap-preserved-in-32 : goal.gap-preserved-in-32
gap-preserved-in-32 c =
    let i = c.gap.invariant in
    let text = c.args.self.now.text.now in
    let place = c.gap.place in
    record {
      forward = omega (arith, i.forward);
      here = omega (arith, i.here);
      within = omega (arith, c.gap-test.true);
      text = i.text;
      start = i.start;
      tape = i.tape;
      names = i.names;
      lines = i.lines;
      front = λ b k g. i.front b k (a_blank c.in-32.is g);
      goes = λ h. goes_space text c.args.from place _ (i.goes h) c.in-32.is;
      apart = λ moved sharp. apart_behind text place (rw c.in-32.is refl);
      same_start = i.same_start;
      in_line = λ h same inside feed. omega (
        arith,
        i.forward,
        space_on text place _ c.in-32.is (i.in_line h same c.gap-test.true (λ e. omega (arith, e, c.in-32.is))),
      );
      in_later_line = λ h more inside feed. omega (
        arith,
        i.here,
        space_on text place _ c.in-32.is (i.in_later_line h more c.gap-test.true (λ e. omega (arith, e, c.in-32.is))),
      );
    }

pub gap-preserved-then-is_feed : goal.gap-preserved-then-is_feed
gap-preserved-then-is_feed c =
    let i = c.gap.invariant in
    let text = c.args.self.now.text.now in
    let feed = c.is_feed.ensures c.if-is_feed.true in
    record {
      forward = omega (arith, i.forward);
      here = omega (arith, i.here);
      within = omega (arith, c.gap-test.true);
      text = i.text;
      start = i.start;
      tape = i.tape;
      names = i.names;
      lines = i.lines;
      front = λ b k g. i.front b k (a_return c.in-13.is feed g);
      goes = λ h. absurd (no_return text c.gap.place h c.in-13.is);
      apart = λ moved sharp. absurd (omega (arith, feed, sharp));
      same_start = i.same_start;
      in_line = λ h same inside other. absurd (other feed);
      in_later_line = λ h more inside other. absurd (other feed);
    }

pub gap-preserved-in-10 : goal.gap-preserved-in-10
gap-preserved-in-10 c =
    let i = c.gap.invariant in
    let text = c.args.self.now.text.now in
    let place = c.gap.place in
    let more : not (c.begin_line.new.self.line == c.args.self.now.line) ≡ true =
    subst (λ n. not (n == c.args.self.now.line) ≡ true) (sym c.begin_line.ensures.counted)
    (counted c.args.self.now.line c.gap.self.line i.lines) in
    record {
      forward = omega (arith, i.forward);
      here = omega (arith, c.begin_line.ensures.begun);
      within = omega (arith, c.gap-test.true);
      text = c.begin_line.ensures.text ∙ i.text;
      start = c.begin_line.ensures.start ∙ i.start;
      tape = c.begin_line.ensures.tape ∙ i.tape;
      names = c.begin_line.ensures.names ∙ i.names;
      lines = omega (arith, i.lines, c.begin_line.ensures.counted);
      front = λ b k g. subst (λ x. Gap c.args.self.now.text.now (x || b) c.args.from k) (sym more)
          (subst (λ x. Gap c.args.self.now.text.now x c.args.from k)
          (or_true (not (c.gap.self.line == c.args.self.now.line)))
          (i.front true k (a_line_feed c.in-10.is g)));
      goes = λ h. goes_feed text c.args.from place _ _ (i.goes h) c.in-10.is more;
      apart = λ moved sharp. apart_behind text place (rw c.in-10.is refl);
      same_start = λ same. absurd (omega (arith, i.lines, c.begin_line.ensures.counted, same));
      in_line = λ h same inside feed. absurd (omega (arith, i.lines, c.begin_line.ensures.counted, same));
      in_later_line = λ h later inside feed. omega (arith, feed_on text place c.in-10.is, c.begin_line.ensures.begun);
    }

pub gap-preserved : goal.gap-preserved
gap-preserved c =
    let i = c.gap.invariant in
    let e = c.line_end-place.ensures in
    let text = c.args.self.now.text.now in
    let end = c.line_end-place.result in
    let apart = sym c.is_apart.ensures ∙ c.if-is_apart.true in
    record {
      forward = omega (arith, i.forward, e.forward);
      here = omega (arith, i.here, e.forward);
      within = e.within;
      text = i.text;
      start = i.start;
      tape = i.tape;
      names = i.names;
      lines = i.lines;
      front = λ b k g. i.front b k (a_comment (record {
        begins = c.in-35.is;
        apart = apart;
        forward = omega (arith, e.forward);
        inside = e.inside;
        ends = e.ends;
      }) g);
      goes = λ h. goes_comment text c.args.from c.gap.place end _ h (i.goes h) c.in-35.is apart e.forward e.within
          e.inside e.ends;
      apart = λ moved sharp. absurd (no_sharp text end e.ends sharp);
      same_start = i.same_start;
      in_line = λ h same inside feed. absurd (no_byte text end e.ends inside feed);
      in_later_line = λ h later inside feed. absurd (no_byte text end e.ends inside feed);
    }

pub returns-after-gap-clause-between : goal.returns-after-gap-clause-between
returns-after-gap-clause-between c = λ _. record {
  gap = whole_gap c.args.self.now.text.now (not (c.gap.self.line == c.args.self.now.line)) c.args.from c.gap.place
      c.gap.invariant.front;
  next = behind_end c.args.self.now.text.now c.gap.place (grind (arith, c.gap-test.false));
}

pub returns-in_default-clause-between : goal.returns-in_default-clause-between
returns-in_default-clause-between c = λ _. record {
  gap = whole_gap c.args.self.now.text.now (not (c.gap.self.line == c.args.self.now.line)) c.args.from c.gap.place
      c.gap.invariant.front;
  next = grind (arith, c.in_default);
}

pub returns-after-gap-clause-found : goal.returns-after-gap-clause-found
returns-after-gap-clause-found c =
    let i = c.gap.invariant in
    let over = c.gap-test.false in
    λ h reached. reaches_next c.args.self.now c.gap.self c.args.from c.gap.place (i.goes h)
    (over_here c.args.self.now.text.now c.gap.place over) i.lines i.same_start
    (λ same inside. absurd (omega (arith, over, inside))) (λ later inside. absurd (omega (arith, over, inside)))

pub returns-after-gap-clause-missed : goal.returns-after-gap-clause-missed
returns-after-gap-clause-missed c =
    λ h none. absurd (no_such_place c.args.self.now c.gap.place c.gap.invariant.within none)

pub returns-in_default-clause-found : goal.returns-in_default-clause-found
returns-in_default-clause-found c =
    let i = c.gap.invariant in
    let text = c.args.self.now.text.now in
    let place = c.gap.place in
    let space : at text place ≡ 32 → ⊥ = grind (arith, c.in_default) in
    let feed : at text place ≡ 10 → ⊥ = grind (arith, c.in_default) in
    let sharp : at text place ≡ 35 → ⊥ = grind (arith, c.in_default) in
    λ h reached. reaches_next c.args.self.now c.gap.self c.args.from c.gap.place (i.goes h)
    (token_here text place feed space sharp) i.lines i.same_start
    (λ same inside. i.in_line h same inside feed) (λ later inside. i.in_later_line h later inside feed)

pub returns-in_default-clause-missed : goal.returns-in_default-clause-missed
returns-in_default-clause-missed c =
    λ h none. absurd (no_such_place c.args.self.now c.gap.place c.gap.invariant.within none)

pub returns-else-is_feed-clause-missed : goal.returns-else-is_feed-clause-missed
returns-else-is_feed-clause-missed c = λ h none. absurd (no_return c.args.self.now.text.now c.gap.place h c.in-13.is)

pub returns-in-35-2-clause-missed : goal.returns-in-35-2-clause-missed
returns-in-35-2-clause-missed c =
    λ h none. no_token c.args.self.now.text.now c.args.from c.gap.place h c.gap.invariant.apart c.in-35.is
    (sym c.is_apart.ensures ∙ c.if-is_apart.false)

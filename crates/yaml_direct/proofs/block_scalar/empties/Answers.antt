-- One empty line more, and none.
use Rattle.std.proofs.Common.{◌≡◌, ◌+◌, ◌-◌, ◌∙◌, ap, arith, subst, sym}
use Rattle.yaml_direct.specs.BlockRows.{AreEmpty}
use Rattle.yaml_direct.proofs.RowLaws.{empty_more, empty_none}
use Rattle.yaml_direct.proofs.TextLaws.{no_return}
use Rattle.yaml_direct.proofs.block_scalar.empties.Goals as goal
use Rattle.yaml_grammar.specs.Bytes.{at}

pub lines-init : goal.lines-init
lines-init c =
    let spaces = c.indentation_end-place.ensures in
    let feed = c.feed_at-feed.ensures in
    record {
      counted = omega arith;
      begun = λ e. e;
      low = spaces.forward;
      high = feed.forward;
      within = feed.within;
      indented = spaces.read;
      there = feed.here;
      empty = λ h. empty_none c.args.text.now c.args.indent c.args.from;
    }

pub lines-preserved : goal.lines-preserved
lines-preserved c =
    let text = c.args.text.now in
    let i = c.lines.invariant in
    let spaces = c.indentation_end-place-in-lines.ensures in
    let feed = c.feed_at-feed-in-lines.ensures in
    let is : at text c.lines.feed ≡ 10 = sym c.at.ensures.value ∙ c.lines-test.true in
    let inside = c.at.ensures.within (λ e. omega (arith, e, c.lines-test.true)) in
    record {
      counted = omega (arith, i.counted, i.low, i.high);
      begun = λ _. (let back : c.lines.feed ≡ c.lines.feed + 1 - 1 = omega arith in ap (at text) (sym back) ∙ is);
      low = spaces.forward;
      high = feed.forward;
      within = feed.within;
      indented = spaces.read;
      there = feed.here;
      empty = λ h.
          let same = i.there (no_return text c.lines.place h) in
          subst (λ k. AreEmpty text c.args.indent (c.lines.count + 1) c.args.from (k + 1)) (sym same)
          (empty_more text c.args.indent c.lines.count c.args.from c.lines.line c.lines.place (i.empty h) i.indented
          (omega (arith, inside, same)) (ap (at text) (sym same) ∙ is));
    }

pub returns-clause-read : goal.returns-clause-read
returns-clause-read c =
    let text = c.args.text.now in
    let i = c.lines.invariant in
    λ h. record {
      empty = i.empty h;
      indented = i.indented;
      some = λ e. c.lines-test.false (c.at.ensures.value ∙ (ap (at text) (i.there (no_return text c.lines.place h))
          ∙ e));
    }

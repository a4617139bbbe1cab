-- A line of spaces more, and the first line with text.
use Rattle.std.proofs.Common.{◌≡◌, ◌+◌, ◌∙◌, Some, ap, ap₂, arith, drop, sym}
use Rattle.yaml_direct.proofs.DetectLaws.{empty_line, tab_line, text_line}
use Rattle.yaml_direct.proofs.TextLaws.{no_return}
use Rattle.yaml_direct.proofs.header.detected.Goals as goal
use Rattle.yaml_grammar.specs.BlockTexts.{found_indent, lines_of}
use Rattle.yaml_grammar.specs.Bytes.{at}

pub lines-init : goal.lines-init
lines-init c =
    let spaces = c.spaces_end-place.ensures in
    let feed = c.feed_at-feed.ensures in
    record {
      low = spaces.forward;
      high = feed.forward;
      within = feed.within;
      blanks = spaces.blanks;
      space = spaces.over;
      there = feed.here;
      short = λ short less. omega (arith, short, less, c.max-widest.ensures);
      read = λ h. ap (λ w. found_indent w (lines_of (drop c.args.from c.args.text.now))) (sym c.max-widest.ensures);
    }

pub lines-preserved : goal.lines-preserved
lines-preserved c =
    let text = c.args.text.now in
    let i = c.lines.invariant in
    let spaces = c.spaces_end-place-in-lines.ensures in
    let feed = c.feed_at-feed-in-lines.ensures in
    let is : at text c.lines.feed ≡ 10 = sym c.at.ensures.value ∙ c.lines-test.true in
    let inside = c.at.ensures.within (λ e. omega (arith, e, c.lines-test.true)) in
    record {
      low = spaces.forward;
      high = feed.forward;
      within = feed.within;
      blanks = spaces.blanks;
      space = spaces.over;
      there = feed.here;
      short = λ short less. omega
          (arith, short, less, i.short short less, c.max-widest-in-lines.ensures, inside, i.high);
      read = λ h.
          let same = i.there (no_return text c.lines.place h) in
          i.read h
          ∙ empty_line text c.lines.line c.lines.place c.lines.widest i.low (omega (arith, inside, same)) i.blanks
          (ap (at text) (sym same) ∙ is)
          ∙ ap₂ (λ w k. found_indent w (lines_of (drop (k + 1) text))) (sym c.max-widest-in-lines.ensures) (sym same);
    }

pub returns-then-at-eq9-clause-missed : goal.returns-then-at-eq9-clause-missed
returns-then-at-eq9-clause-missed c =
    let text = c.args.text.now in
    let i = c.lines.invariant in
    λ h short less none. i.read h
    ∙ tab_line text c.lines.line c.lines.place c.lines.widest i.low (omega (arith, i.high, i.within)) i.blanks
    (sym c.at-2.ensures.value ∙ c.if-at-eq9.true)

pub returns-clause-found : goal.returns-clause-found
returns-clause-found c =
    let text = c.args.text.now in
    let i = c.lines.invariant in
    λ h some.
    let same = i.there (no_return text c.lines.place h) in
    i.read h
    ∙ text_line text c.lines.line c.lines.place c.lines.widest i.low (omega (arith, i.high, i.within)) i.blanks i.space
    (λ e. c.lines-test.false (c.at.ensures.value ∙ (ap (at text) same ∙ e)))
    (λ e. c.if-at-eq9.false (c.at-2.ensures.value ∙ e))
    ∙ ap (λ n. Some n) (sym c.max.ensures)

-- By whether a character begins with the byte before.
use Rattle.std.proofs.Common.{◌-◌, ◌≡◌, false, sym, ◌∙◌, arith}
use Rattle.yaml_base.specs.Places.{ends_line}
use Rattle.yaml_direct.proofs.ReachLaws.{next_column, reaches, same_column}
use Rattle.yaml_direct.proofs.column.reaches_column.Goals as goal

pub returns-then-left-eq1 : goal.returns-then-left-eq1
returns-then-left-eq1 c =
    let text = c.args.text.now in
    let goes_on : ends_line text (c.line.place - 1) ≡ false = sym c.if-not-ends_line.ensures in
    let one = next_column text c.line.place c.line-test.true goes_on (sym c.begins_character.ensures ∙ c.if-begins_character.true) in
    sym (reaches _ c.args.least (omega (arith, c.line.invariant.counted, c.if-left-eq1.true, one)))

pub line-preserved-then-begins_character : goal.line-preserved-then-begins_character
line-preserved-then-begins_character c =
    let text = c.args.text.now in
    let goes_on : ends_line text (c.line.place - 1) ≡ false = sym c.if-not-ends_line.ensures in
    let one = next_column text c.line.place c.line-test.true goes_on (sym c.begins_character.ensures ∙ c.if-begins_character.true) in
    record {
      within = omega (arith, c.line.invariant.within);
      some = omega (arith, c.line.invariant.some, c.if-left-eq1.false);
      counted = omega (arith, c.line.invariant.counted, c.line.invariant.some, one);
    }

pub line-preserved : goal.line-preserved
line-preserved c =
    let text = c.args.text.now in
    let goes_on : ends_line text (c.line.place - 1) ≡ false = sym c.if-not-ends_line.ensures in
    let same = same_column text c.line.place c.line-test.true goes_on (sym c.begins_character.ensures ∙ c.if-begins_character.false) in
    record {
      within = omega (arith, c.line.invariant.within);
      some = c.line.invariant.some;
      counted = omega (arith, c.line.invariant.counted, same);
    }

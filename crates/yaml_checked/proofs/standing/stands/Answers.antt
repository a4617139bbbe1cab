-- One entry more stands in the text, and at the end all do.
use Rattle.yaml_checked.proofs.StandingTapes.{stand_more, stands_in_text}
use Rattle.yaml_checked.proofs.standing.stands.Goals as goal

pub loop-entry-preserved : goal.loop-entry-preserved
loop-entry-preserved c =
    stand_more c.args.tape.now c.loop-entry.entry-index _ c.deref-entry-items.ensures.value c.loop-entry-test.true
    c.loop-entry.invariant (c.entry_stands.ensures c.if-not-entry_stands.false) c.if-entry-last.false

pub returns : goal.returns
returns c = λ _.
    stands_in_text c.args.tape.now c.deref-entry-items.ensures.value c.loop-entry-test.false c.loop-entry.invariant

-- One more chain is empty, and then one more entry is in its chain.
use Rattle.std.proofs.Common.{arith, ◌∙◌}
use Rattle.yaml_value.proofs.Indexed.{emptied}
use Rattle.yaml_value.proofs.index.chain_all.Goals as goal

pub loop-number-preserved : goal.loop-number-preserved
loop-number-preserved c =
    let before = c.loop-number.invariant in (
      emptied c.loop-number.number c.loop-number.entries.items c.set_last.new.entries.items
          (omega (arith, before.2, c.loop-number-test.true, c.requires.within)) c.set_last.ensures.lasts before.0,
      c.set_last.ensures.pairs ∙ before.1,
      c.set_last.ensures.len ∙ before.2,
    )

pub loop-place-preserved : goal.loop-place-preserved
loop-place-preserved c =
    let before = c.loop-place.invariant in
    (c.chain.ensures.chained before.0, c.chain.ensures.pairs ∙ before.1, c.chain.ensures.len ∙ before.2)

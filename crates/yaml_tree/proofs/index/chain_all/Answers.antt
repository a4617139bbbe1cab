-- One more chain is empty.
use Rattle.std.proofs.Common.{arith, ◌∙◌}
use Rattle.yaml_tree.proofs.Indexed.{emptied}
use Rattle.yaml_tree.proofs.index.chain_all.Goals as goal

pub loop-chain-preserved : goal.loop-chain-preserved
loop-chain-preserved c =
    let before = c.loop-chain.invariant in
    let after = emptied c.loop-chain.chain c.loop-chain.entries.items c.set_last.new.entries.items
    (omega (arith, before.2, c.loop-chain-test.true, c.requires.within)) c.set_last.ensures before.0 in
    (after.0, after.1 ∙ before.1, after.2 ∙ before.2)

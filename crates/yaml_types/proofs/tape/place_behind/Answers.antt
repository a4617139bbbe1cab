use Rattle.std.proofs.Common.{◌+◌}
use Rattle.yaml_tape.specs.OnDocs.{docs_from}
use Rattle.yaml_types.specs.Behind.{behind}
use Rattle.yaml_types.proofs.BehindLaws.{walk_ends, walk_goes}
use Rattle.yaml_types.proofs.tape.place_behind.Goals as goal

pub returns-then-inner-eq0 : goal.returns-then-inner-eq0
returns-then-inner-eq0 c =
    walk_ends c.args.tape.now c.loop-at.at (c.loop-at.at + 1) c.in_ok-entry.entry c.loop-at.depth c.in_ok-inner.inner
    (behind 0 (docs_from c.args.tape.now c.args.place)) c.in_ok-entry.ensures c.in_ok-inner.ensures c.if-inner-eq0.true
    c.loop-at.invariant

pub loop-at-preserved : goal.loop-at-preserved
loop-at-preserved c =
    walk_goes c.args.tape.now c.loop-at.at (c.loop-at.at + 1) c.in_ok-entry.entry c.loop-at.depth c.in_ok-inner.inner
    (behind 0 (docs_from c.args.tape.now c.args.place)) c.in_ok-entry.ensures c.in_ok-inner.ensures
    c.if-inner-eq0.false c.loop-at.invariant

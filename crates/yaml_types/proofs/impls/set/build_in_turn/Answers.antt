-- Each item is built and put in in its turn.
use Rattle.std.proofs.Common.{arith}
use Rattle.yaml_shape.proofs.PartLaws.{empty}
use Rattle.yaml_types.proofs.SetFilling.{filling_next, filling_all}
use Rattle.yaml_types.proofs.impls.set.build_in_turn.Goals as goal

pub loop-item-preserved : goal.loop-item-preserved
loop-item-preserved g c =
    filling_next c.in_ok-build.field-0 c.in-Some.ensures.steps.0 c.in_ok-insert.ensures.keys c.in_ok-build.ensures.ok
    c.loop-item.invariant

pub returns-clause-ok : goal.returns-clause-ok
returns-clause-ok g c =
    filling_all (empty c.loop-item.item-iterator.rest.items (omega (
      arith,
      c.loop-item.item-iterator.rest.ok.0,
      c.in-None.ensures.steps.0,
    )))
    c.loop-item.invariant

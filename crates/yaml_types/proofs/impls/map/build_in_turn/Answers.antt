-- Each entry is built and put in in its turn.
use Rattle.std.proofs.Common.{refl, arith}
use Rattle.yaml_shape.proofs.PartLaws.{empty}
use Rattle.yaml_types.proofs.MapFilling.{next_shaped, filling_next, filling_all}
use Rattle.yaml_types.proofs.impls.map.build_in_turn.Goals as goal

pub build_both-requires : goal.build_both-requires
build_both-requires g c κs = ((refl, tt), next_shaped c.in-Some.ensures.steps.0 c.loop-pair.invariant)

pub loop-pair-preserved : goal.loop-pair-preserved
loop-pair-preserved g c =
    filling_next (c.in_ok-key.key, c.in_ok-key.value) c.in-Some.ensures.steps.0 c.in_ok-insert.ensures.entries
    c.in_ok-key.ensures.ok c.loop-pair.invariant

pub returns-clause-ok : goal.returns-clause-ok
returns-clause-ok g c =
    filling_all (empty c.loop-pair.pair-iterator.rest.items (omega (
      arith,
      c.loop-pair.pair-iterator.rest.ok.0,
      c.in-None.ensures.steps.0,
    )))
    c.loop-pair.invariant

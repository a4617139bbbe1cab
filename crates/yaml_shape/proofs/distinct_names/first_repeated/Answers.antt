-- The search for a shape with a name twice.
use Rattle.yaml_shape.specs.Validity.{HasDistinctNames}
use Rattle.yaml_shape.proofs.FirstLaws.{first_without, one_more, all_so}
use Rattle.yaml_shape.proofs.distinct_names.first_repeated.Goals as goal

pub returns-then-not-branch-clause-first : goal.returns-then-not-branch-clause-first
returns-then-not-branch-clause-first c =
    first_without HasDistinctNames c.args.shapes.now c.loop-number.number c.index-shapes-number.result
    c.loop-number-test.true c.index-shapes-number.is c.loop-number.invariant
    (λ h. cc (c.in_ok-has_distinct_names.ensures.1 h))

pub loop-number-preserved : goal.loop-number-preserved
loop-number-preserved c =
    one_more HasDistinctNames c.args.shapes.now c.loop-number.number c.index-shapes-number.result
    c.loop-number-test.true c.index-shapes-number.is c.loop-number.invariant
    (c.in_ok-has_distinct_names.ensures.0 c.if-not-branch.false)

pub returns-clause-none : goal.returns-clause-none
returns-clause-none c = λ _.
    all_so HasDistinctNames c.args.shapes.now c.loop-number.number c.loop-number-test.false c.loop-number.invariant

-- The search for a shape that names a number outside the table.
use Rattle.std.proofs.Common.{length}
use Rattle.std.proofs.lemmas.List.{length-map}
use Rattle.yaml_shape.specs.Validity.{NamesWithin}
use Rattle.yaml_shape.proofs.FirstLaws.{first_without, one_more, all_so}
use Rattle.yaml_shape.proofs.ids_within.first_outside.Goals as goal

pub returns-then-not-names_within-clause-first : goal.returns-then-not-names_within-clause-first
returns-then-not-names_within-clause-first c =
    rw length-map (first_without (NamesWithin (length c.args.shapes.now)) c.args.shapes.now c.loop-number.number
    c.index-shapes-number.result
    c.loop-number-test.true c.index-shapes-number.is c.loop-number.invariant (λ h. cc (c.names_within.ensures.1 h)))

pub loop-number-preserved : goal.loop-number-preserved
loop-number-preserved c =
    one_more (NamesWithin (length c.args.shapes.now)) c.args.shapes.now c.loop-number.number
    c.index-shapes-number.result
    c.loop-number-test.true c.index-shapes-number.is c.loop-number.invariant
    (c.names_within.ensures.0 c.if-not-names_within.false)

pub returns-clause-none : goal.returns-clause-none
returns-clause-none c = λ _.
    all_so (NamesWithin (length c.args.shapes.now)) c.args.shapes.now c.loop-number.number c.loop-number-test.false
    c.loop-number.invariant

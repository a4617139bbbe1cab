-- The table with one more shape is valid.
use Rattle.std.proofs.Common.{arith}
use Rattle.yaml_shape.proofs.JoinCode.{pushed_valid, pushed_keeps}
use Rattle.yaml_shape.proofs.join.add.Goals as goal

pub invariant_of-result : goal.invariant_of-result
invariant_of-result c =
    pushed_valid c.schema.inside.shapes.items c.push.new.self.items c.args.shape c.args.schema c.schema.view_is
    c.in_ok-push.ensures.items
    c.schema.invariant c.requires.within c.requires.distinct (omega (arith, c.schema.inside.shapes.ok.0))

pub returns-clause-kept : goal.returns-clause-kept
returns-clause-kept c =
    pushed_keeps c.schema.inside.shapes.items c.push.new.self.items c.args.shape c.args.schema c.schema.view_is
    c.in_ok-push.ensures.items c.schema.invariant

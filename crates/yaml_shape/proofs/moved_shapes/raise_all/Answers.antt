-- The raising of shapes.
use Rattle.std.proofs.Common.{ap, ◌∙◌, arith}
use Rattle.yaml_shape.specs.Join.{raised}
use Rattle.yaml_shape.specs.ShapeView.{shape_of}
use Rattle.yaml_shape.specs.Validity.{NamesWithin}
use Rattle.yaml_shape.proofs.RaiseLaws.{one_raised, as_before}
use Rattle.yaml_shape.proofs.moved_shapes.raise_all.Goals as goal

pub raise_shape-requires-clause-small : goal.raise_shape-requires-clause-small
raise_shape-requires-clause-small c =
    as_before shape_of (raised c.args.by) (λ s. NamesWithin 4096 (shape_of s))
    c.args.shapes.now.items c.loop-i.shapes.items c.loop-i.i c.index_mut.result.now
    (omega arith) c.loop-i.invariant c.index_mut.ensures.value c.requires.small

pub loop-i-preserved : goal.loop-i-preserved
loop-i-preserved c =
    one_raised shape_of (raised c.args.by) c.args.shapes.now.items c.loop-i.shapes.items c.loop-i.i
    c.index_mut.result.now _
    (omega arith) c.loop-i.invariant
    (c.raise_shape.ensures ∙ ap (λ s. raised c.args.by (shape_of s)) c.index_mut.ensures.value)

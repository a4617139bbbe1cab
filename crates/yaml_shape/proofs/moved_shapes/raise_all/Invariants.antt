-- What the raising of shapes keeps.
use Rattle.yaml_shape.specs.Join.{raised}
use Rattle.yaml_shape.specs.ShapeView.{shape_of}
use Rattle.yaml_shape.proofs.RaiseLaws.{AreRaised}
use Rattle.yaml_shape.proofs.moved_shapes.raise_all.Given as goal

-- the shapes before this one are raised
abbrev pub invariant-loop-i : goal.invariant-loop-i
invariant-loop-i l = AreRaised shape_of (raised l.by) l.initial.shapes.items l.shapes.items l.i

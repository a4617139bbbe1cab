-- What the search for a shape with a name twice keeps.
use Rattle.std.specs.Prelude.{take, All}
use Rattle.yaml_shape.specs.ShapeView.{shape_of}
use Rattle.yaml_shape.specs.Validity.{HasDistinctNames}
use Rattle.yaml_shape.proofs.distinct_names.first_repeated.Given as goal

-- each shape before this one has no name twice
abbrev pub invariant-loop-number : goal.invariant-loop-number
invariant-loop-number l = All (λ shape. HasDistinctNames (shape_of shape)) (take l.number l.shapes)

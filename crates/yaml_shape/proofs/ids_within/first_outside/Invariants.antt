-- What the search for a shape that names a number outside the table keeps.
use Rattle.std.specs.Prelude.{length, take, All}
use Rattle.yaml_shape.specs.ShapeView.{shape_of}
use Rattle.yaml_shape.specs.Validity.{NamesWithin}
use Rattle.yaml_shape.proofs.ids_within.first_outside.Given as goal

-- each shape before this one names only numbers in the table
abbrev pub invariant-loop-number : goal.invariant-loop-number
invariant-loop-number l = All (λ shape. NamesWithin (length l.shapes) (shape_of shape)) (take l.number l.shapes)

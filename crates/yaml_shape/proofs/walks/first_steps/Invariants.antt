-- What the walk over the table keeps.
use Rattle.std.specs.Prelude.{◌≡◌, map, take}
use Rattle.yaml_shape.specs.ShapeView.{shape_of}
use Rattle.yaml_shape.specs.Validity.{optional_content}
use Rattle.yaml_shape.proofs.walks.first_steps.Given as goal

-- the steps from each shape before this one
abbrev pub invariant-loop-i : goal.invariant-loop-i
invariant-loop-i l = l.steps.items ≡ map optional_content (map shape_of (take l.i l.shapes))

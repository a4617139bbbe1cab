-- What the doubling keeps.
use Rattle.std.specs.Prelude.{◌^◌, map}
use Rattle.yaml_shape.specs.ShapeView.{shape_of}
use Rattle.yaml_shape.specs.Walks.{AreWalks}
use Rattle.yaml_shape.proofs.walks.first_cycle.Given as goal

-- the list has for each shape where twice, four times, .. as many steps lead
abbrev pub invariant-loop-doubling : goal.invariant-loop-doubling
invariant-loop-doubling l = AreWalks (map shape_of l.shapes) (2 ^ l.doubling) l.steps.items

-- What the walk over the steps keeps.
use Rattle.std.specs.Prelude.{◌≡◌, map, take}
use Rattle.yaml_shape.specs.Walks.{led_on}
use Rattle.yaml_shape.proofs.walks.doubled.Given as goal

-- twice as many steps from each shape before this one
abbrev pub invariant-loop-i : goal.invariant-loop-i
invariant-loop-i l = l.twice.items ≡ map (led_on l.steps) (take l.i l.steps)

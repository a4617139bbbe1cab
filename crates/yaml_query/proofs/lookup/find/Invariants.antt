-- What is left of the path leads on from what was found.
use Rattle.std.proofs.Common.{◌≡◌, drop}
use Rattle.yaml_query.specs.AtPath.{found_at, found_from}
use Rattle.yaml_query.specs.Steps.{plain_steps}
use Rattle.yaml_value.specs.View.{plain}
use Rattle.yaml_query.proofs.lookup.find.Given as goal

abbrev pub invariant-loop-i : goal.invariant-loop-i
invariant-loop-i l =
    found_at (plain_steps l.steps) (plain l.initial.found) ≡ found_from l.i (plain_steps (drop l.i l.steps)) (plain
    l.found)

-- What the search for the least end keeps.
use Rattle.std.specs.Prelude.{◌≡◌, take, fold, None}
use Rattle.yaml_shape.specs.Walks.{lesser}
use Rattle.yaml_shape.proofs.walks.least.Given as goal

-- the least end of the steps before these
abbrev pub invariant-loop-i : goal.invariant-loop-i
invariant-loop-i l = l.least ≡ fold lesser None (take l.i l.steps)

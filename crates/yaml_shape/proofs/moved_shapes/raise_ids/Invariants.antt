-- What the raising of numbers keeps.
use Rattle.std.specs.Prelude.{◌+◌}
use Rattle.yaml_shape.proofs.RaiseLaws.{AreRaised}
use Rattle.yaml_shape.proofs.moved_shapes.raise_ids.Given as goal

-- the numbers before this one are raised
abbrev pub invariant-loop-i : goal.invariant-loop-i
invariant-loop-i l = AreRaised (λ id. id.0) (λ n. l.by + n) l.initial.ids.items l.ids.items l.i

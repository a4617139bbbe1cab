-- What the raising of fields keeps.
use Rattle.std.specs.Prelude.{◌+◌}
use Rattle.yaml_shape.specs.ShapeView.{field_of}
use Rattle.yaml_shape.proofs.RaiseLaws.{AreRaised}
use Rattle.yaml_shape.proofs.moved_shapes.raise_fields.Given as goal

-- the fields before this one are raised
abbrev pub invariant-loop-i : goal.invariant-loop-i
invariant-loop-i l = AreRaised field_of (λ f. (f.0, l.by + f.1)) l.initial.fields.items l.fields.items l.i

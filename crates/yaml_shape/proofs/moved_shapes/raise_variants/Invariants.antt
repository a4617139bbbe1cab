-- What the raising of variants keeps.
use Rattle.yaml_shape.specs.Join.{raised_content}
use Rattle.yaml_shape.specs.ShapeView.{variant_of}
use Rattle.yaml_shape.proofs.RaiseLaws.{AreRaised}
use Rattle.yaml_shape.proofs.moved_shapes.raise_variants.Given as goal

-- the variants before this one are raised
abbrev pub invariant-loop-i : goal.invariant-loop-i
invariant-loop-i l = AreRaised variant_of
    (λ v. (v.0, raised_content l.by v.1)) l.initial.variants.items l.variants.items l.i

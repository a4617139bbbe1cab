-- What the walk over variants keeps.
use Rattle.std.specs.Prelude.{take, All}
use Rattle.yaml_shape.specs.ShapeView.{content_of}
use Rattle.yaml_shape.specs.Validity.{IsDistinctInside}
use Rattle.yaml_shape.proofs.distinct_names.are_distinct_inside.Given as goal

-- each variant before this one has no name twice in its content
abbrev pub invariant-loop-i : goal.invariant-loop-i
invariant-loop-i l = All (λ v. IsDistinctInside (content_of v.1)) (take l.i l.variants)

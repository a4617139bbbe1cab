-- What the comparison of neighbours keeps.
use Rattle.std.specs.Prelude.{◌≢◌}
use Rattle.std.specs.List.{AllAdjacentBelow}
use Rattle.yaml_shape.proofs.distinct_names.are_distinct.Given as goal

-- each name up to this one differs from the next
abbrev pub invariant-loop-i : goal.invariant-loop-i
invariant-loop-i l = AllAdjacentBelow (λ a b. a.now ≢ b.now) l.names.items l.i

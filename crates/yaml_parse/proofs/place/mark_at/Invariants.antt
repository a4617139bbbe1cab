-- The line and the column are those of the byte that comes next.
use Rattle.std.proofs.Common.{◌≡◌}
use Rattle.yaml_base.specs.Places.{place_of}
use Rattle.yaml_parse.proofs.place.mark_at.Given as goal

abbrev pub invariant-loop-at : goal.invariant-loop-at
invariant-loop-at l = (l.line, l.column) ≡ place_of l.text l.at

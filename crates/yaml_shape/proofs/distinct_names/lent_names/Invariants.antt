-- What the copying of names keeps.
use Rattle.std.specs.Prelude.{◌≡◌, map, take, string_bytes}
use Rattle.yaml_shape.proofs.distinct_names.lent_names.Given as goal

-- the names so far
abbrev pub invariant-loop-i : goal.invariant-loop-i
invariant-loop-i g l = map (λ n. n.now) l.names.items ≡ map (λ e. string_bytes e.0) (take l.i l.entries)

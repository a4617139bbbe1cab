-- There are so many schemas of the type so far.
use Rattle.std.proofs.Common.{◌≡◌, replicate}
use Rattle.yaml_shape.specs.Join.{parts_of}
use Rattle.yaml_types.proofs.impls.array.ArrayDeserialize.schema.Given as goal

abbrev pub invariant-loop : goal.invariant-loop
invariant-loop g l = parts_of l.parts.items ≡ replicate l.counter g.T.Deserialize.start

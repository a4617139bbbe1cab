-- What the joining of tables in a row keeps.
use Rattle.yaml_shape.proofs.PartLaws.{AreJoined, AreSeen}
use Rattle.yaml_shape.proofs.rows.join_row.Given as goal

-- some of the tables are joined, each of them closed, and the others are left
abbrev pub invariant-loop-schema : goal.invariant-loop-schema
invariant-loop-schema l =
    AreJoined l.fn.first l.fn.parts.items l.all l.starts.items l.schema-iterator.rest.items
    × AreSeen l.fn.parts.items l.yielded l.schema-iterator.rest.items

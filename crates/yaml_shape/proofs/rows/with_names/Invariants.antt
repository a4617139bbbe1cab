-- What the naming of numbers keeps.
use Rattle.yaml_shape.proofs.PartLaws.{AreNamed}
use Rattle.yaml_shape.proofs.rows.with_names.Given as goal

-- some names have their numbers, and as many names as numbers are left
abbrev pub invariant-loop-name : goal.invariant-loop-name
invariant-loop-name l =
    AreNamed l.fn.names.items l.fn.ids.items l.fields.items l.name-iterator.rest.items l.ids.rest.items

-- The first schema and each part of the row keep their data.
use Rattle.yaml_shape.specs.Join.{parts_of}
use Rattle.yaml_shape.proofs.RowShapes.{behind_first, behind_each}
use Rattle.yaml_shape.proofs.rows.row_behind.Goals as goal

pub returns-in-Ok-clause-first_kept : goal.returns-in-Ok-clause-first_kept
returns-in-Ok-clause-first_kept c =
    behind_first c.args.first (parts_of c.args.parts.items) c.in-Ok.row.0 c.in-Ok.row.1.items c.is_valid.ensures
    c.in-Ok.ensures.ok

pub returns-in-Ok-clause-kept : goal.returns-in-Ok-clause-kept
returns-in-Ok-clause-kept c =
    behind_each c.args.first (parts_of c.args.parts.items) c.in-Ok.row.0 c.in-Ok.row.1.items c.in-Ok.ensures.closed
    c.in-Ok.ensures.ok

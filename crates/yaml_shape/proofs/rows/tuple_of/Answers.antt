-- The row is closed, and each part of it keeps its data.
use Rattle.yaml_shape.specs.PlainShape.{row_shape, unnamed}
use Rattle.yaml_shape.specs.ShapeView.{ids_of}
use Rattle.yaml_shape.specs.Join.{parts_of}
use Rattle.yaml_shape.specs.Kept.{KeepsAllShapes}
use Rattle.yaml_shape.proofs.JoinCode.{answered}
use Rattle.yaml_shape.proofs.RowShapes.{row_within, row_keeps}
use Rattle.yaml_shape.proofs.rows.tuple_of.Goals as goal

pub add-requires-clause-within : goal.add-requires-clause-within
add-requires-clause-within c =
    row_within c.empty.result (parts_of c.args.parts.items) c.in-Ok.all c.in-Ok.starts.items c.requires
    c.in-Ok.ensures.ok

pub returns-in-Ok-clause-kept : goal.returns-in-Ok-clause-kept
returns-in-Ok-clause-kept c =
    answered c.add.result c.in-Ok.all (row_shape unnamed (ids_of c.in-Ok.starts.items))
    (KeepsAllShapes 0 (parts_of c.args.parts.items))
    (row_keeps c.empty.result (parts_of c.args.parts.items) c.in-Ok.all c.in-Ok.starts.items
    (row_shape unnamed (ids_of c.in-Ok.starts.items)) c.empty.ensures c.in-Ok.ensures.closed c.in-Ok.ensures.ok)
    c.add.ensures.ok

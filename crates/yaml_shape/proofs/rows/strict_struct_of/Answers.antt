-- The shapes of the fields are in the join, and each part of it keeps its data.
use Rattle.std.proofs.Common.{map, true, string_bytes}
use Rattle.yaml_shape.specs.PlainShape.{fields_shape, of_struct}
use Rattle.yaml_shape.specs.ShapeView.{fields_of}
use Rattle.yaml_shape.specs.Join.{named_behind, parts_of}
use Rattle.yaml_shape.specs.Kept.{KeepsAllShapes}
use Rattle.yaml_shape.proofs.JoinCode.{answered}
use Rattle.yaml_shape.proofs.RowShapes.{fields_within, joined_keeps, not_added}
use Rattle.yaml_shape.proofs.rows.strict_struct_of.Goals as goal

pub add_named-requires : goal.add_named-requires
add_named-requires c =
    fields_within (map string_bytes c.args.fields.items) (parts_of c.args.parts.items) c.in-Ok.all
    (fields_of c.in-Ok.fields.items) c.in-Ok.ensures.table c.in-Ok.ensures.fields c.requires.within

pub returns-in-Ok-clause-kept : goal.returns-in-Ok-clause-kept
returns-in-Ok-clause-kept c =
    answered c.add_named.result c.in-Ok.all
    (fields_shape true (of_struct (string_bytes c.args.name)) (fields_of c.in-Ok.fields.items))
    (KeepsAllShapes 0 (parts_of c.args.parts.items))
    (joined_keeps (parts_of c.args.parts.items) c.in-Ok.all _ c.in-Ok.ensures.table c.in-Ok.ensures.closed)
    c.add_named.ensures.ok

pub returns-in-Err-clause-refused : goal.returns-in-Err-clause-refused
returns-in-Err-clause-refused c =
    not_added _ (fields_shape true (of_struct (string_bytes c.args.name))
    (named_behind 0 (map string_bytes c.args.fields.items) (parts_of c.args.parts.items))) c.in-Err.fault
    c.in-Err.ensures.refused

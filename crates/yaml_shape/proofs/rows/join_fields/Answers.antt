-- There are as many names as parts.
use Rattle.std.proofs.Common.{◌∙◌, sym}
use Rattle.yaml_shape.proofs.RowShapes.{row_length}
use Rattle.yaml_shape.proofs.rows.join_fields.Goals as goal

pub with_names-requires : goal.with_names-requires
with_names-requires c =
    c.requires.same
    ∙ sym (row_length c.empty.result c.args.parts.items c.in-Ok.all c.in-Ok.starts.items c.in-Ok.ensures.ok)

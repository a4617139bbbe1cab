-- There are as many names as types, and a row is as long as its tables are together.
use Rattle.std.proofs.Common.{◌∙◌, sym, subst}
use Rattle.yaml_shape.specs.Join.{parts_of, IsTooLarge}
use Rattle.yaml_shape.proofs.RowShapes.{row_length}
use Rattle.yaml_types.specs.StructLaws.{length-row}
use Rattle.yaml_types.proofs.contents.fields_behind.Goals as goal

pub with_names-requires : goal.with_names-requires
with_names-requires c =
    c.requires.same
    ∙ sym (row_length c.args.before c.args.parts.items c.in-Ok.table c.in-Ok.ids.items c.in-Ok.ensures.ok)

pub returns-in-Err-clause-refused : goal.returns-in-Err-clause-refused
returns-in-Err-clause-refused c =
    subst (λ n. IsTooLarge n c.in-Err.fault) (length-row c.args.before (parts_of c.args.parts.items))
    c.in-Err.ensures.refused

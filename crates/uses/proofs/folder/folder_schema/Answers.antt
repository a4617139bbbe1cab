-- The table is refused only for want of memory.
use Rattle.std.proofs.Common.{◌≡◌, map, subst, rules}
use Rattle.yaml_shape.specs.ShapeView.{shape_of}
use Rattle.yaml_shape.specs.SchemaRefusal.{IsRefused}
use Rattle.uses.specs.Folders.{folder_start}
use Rattle.uses.proofs.FolderSchema.{folder_refused}
use Rattle.uses.proofs.folder.folder_schema.Goals as goal

pub returns-in-Err-clause-refused : goal.returns-in-Err-clause-refused
returns-in-Err-clause-refused c =
    let table : map shape_of c.in_ok-shapes.shapes.items ≡ folder_start.0 = search rules in
    folder_refused c.in-Err.fault (subst (λ shapes. IsRefused shapes c.in-Err.fault) table c.in-Err.ensures.refused)

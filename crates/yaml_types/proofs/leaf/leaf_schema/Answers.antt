-- One shape alone is refused only for want of memory.
use Rattle.std.proofs.Common.{map, subst}
use Rattle.yaml_shape.specs.ShapeView.{shape_of}
use Rattle.yaml_shape.specs.SchemaRefusal.{IsRefused}
use Rattle.yaml_types.proofs.LeafLaws.{leaf_refused}
use Rattle.yaml_types.proofs.leaf.leaf_schema.Goals as goal

pub returns-in-Err-clause-refused : goal.returns-in-Err-clause-refused
returns-in-Err-clause-refused c =
    leaf_refused (shape_of c.args.shape) c.in-Err.fault c.requires
    (subst (λ shapes. IsRefused (map shape_of shapes) c.in-Err.fault) c.in_ok-vec.ensures.items
    c.in-Err.ensures.refused)

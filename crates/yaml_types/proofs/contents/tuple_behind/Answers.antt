-- A row is as long as its tables are together.
use Rattle.std.proofs.Common.{subst}
use Rattle.yaml_shape.specs.Join.{parts_of, IsTooLarge}
use Rattle.yaml_types.specs.StructLaws.{length-row}
use Rattle.yaml_types.proofs.contents.tuple_behind.Goals as goal

pub returns-in-Err-clause-refused : goal.returns-in-Err-clause-refused
returns-in-Err-clause-refused c =
    subst (λ n. IsTooLarge n c.in-Err.fault) (length-row c.args.before (parts_of c.args.parts.items))
    c.in-Err.ensures.refused

-- Where one type of the row is too large, the struct is.
use Rattle.std.proofs.Common.{true}
use Rattle.yaml_types.proofs.StructFound.{row_too_large}
use Rattle.yaml_types.proofs.strict.StrictStructSerialize.schema.Goals as goal

pub returns-in-Err-clause-refused : goal.returns-in-Err-clause-refused
returns-in-Err-clause-refused g c =
    row_too_large c.in-Err.fault true g.F.Fields.name g.F.Fields.names g.F.Types.WriteRow.starts
    c.in-Err.ensures.refused

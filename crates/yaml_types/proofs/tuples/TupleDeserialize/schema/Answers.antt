-- Where one type of the row is too large, the tuple is.
use Rattle.yaml_types.proofs.StructFound.{tuple_too_large}
use Rattle.yaml_types.proofs.tuples.TupleDeserialize.schema.Goals as goal

pub returns-in-Err-clause-refused : goal.returns-in-Err-clause-refused
returns-in-Err-clause-refused g c =
    tuple_too_large c.in-Err.fault g.R.ReadRow.starts c.in-Err.ensures.refused

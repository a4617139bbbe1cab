-- Where the type is too large, the array is.
use Rattle.yaml_types.proofs.ArrayFound.{array_too_large}
use Rattle.yaml_types.proofs.impls.array.ArrayDeserialize.schema.Goals as goal

pub returns-in-Err-clause-refused : goal.returns-in-Err-clause-refused
returns-in-Err-clause-refused g c =
    array_too_large c.in-Err.fault g.row.N c.loop.counter g.T.Deserialize.start c.loop-test.true
    c.in-Err.ensures.refused

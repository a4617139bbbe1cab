-- What the parts of data with its shape are known for.
use Rattle.yaml_shape.specs.DataView.{data_of}
use Rattle.yaml_shape.specs.TypedView.{id_in, schema_in}
use Rattle.yaml_round.proofs.ShapesOfData.{shape_there}
use Rattle.yaml_round.proofs.held.typed_is_held.Goals as goal

pub returns-clause-shape : goal.returns-clause-shape
returns-clause-shape c =
    shape_there (schema_in c.args.value.now) (id_in c.args.value.now).0 (data_of c.content.result.now)
    c.content.ensures.typed

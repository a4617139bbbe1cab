-- What a type makes of the data of a stream's one document is what the stream's input gives as a value of it.
use Rattle.std.proofs.Common.{refl, Ok, Err}
use Rattle.yaml_shape.specs.DataView.{data_of}
use Rattle.yaml_types.specs.Start.{IsClosed}
use Rattle.serde_yaml.proofs.TypedLaws.{no_type, no_value, type_gives, value_given, whole_input}
use Rattle.serde_yaml.proofs.de.typed.from_stream.Goals as goal

pub returns-in-Err-clause-given : goal.returns-in-Err-clause-given
returns-in-Err-clause-given g c = λ input fault is formed.
    no_type c.args.limits g.T.Deserialize.start g.T.Deserialize.built g.T.Deserialize.refused input fault
    c.in-Err.reason c.schema_refusal.result c.in-Err.ensures.refused c.schema_refusal.ensures

pub returns-in-Err-clause-meaning : goal.returns-in-Err-clause-meaning
returns-in-Err-clause-meaning g c = λ input fault is formed m.
    value_given c.args.limits g.T.Deserialize.start g.T.Deserialize.built g.T.Deserialize.refused input fault
    c.reading_gives_the_meaning.ensures (returns-in-Err-clause-given g c input fault is formed m)

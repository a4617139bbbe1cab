-- What the stream of an input gives is what the input means.
use Rattle.yaml_shape.specs.DataView.{data_of}
use Rattle.serde_yaml.proofs.FirstDocument.{answers_weaker}
use Rattle.serde_yaml.proofs.TypedLaws.{stream_means}
use Rattle.serde_yaml.proofs.de.Deserializer.deserialize_limited.Goals as goal

pub returns-clause-meaning : goal.returns-clause-meaning
returns-clause-meaning c = λ s is input fault same formed.
    answers_weaker data_of _ _ (stream_means c.reading_gives_the_meaning.ensures input fault formed same)
    c.read_within.result (c.read_within.ensures s is)

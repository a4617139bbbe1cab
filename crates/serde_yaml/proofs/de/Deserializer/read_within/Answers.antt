-- What a stream gives, from what its first document gives.
use Rattle.yaml_shape.specs.DataView.{data_of}
use Rattle.serde_yaml.proofs.FirstDocument.{answers_weaker, stream_gives}
use Rattle.serde_yaml.proofs.de.Deserializer.read_within.Goals as goal

pub returns-in-Ok : goal.returns-in-Ok
returns-in-Ok c = λ s is.
    answers_weaker data_of _ _ (stream_gives c.in-Ok.ensures.found) c.read_first.result (c.read_first.ensures s is)

pub returns-in-Err : goal.returns-in-Err
returns-in-Err c = λ s is m. c.in-Err.ensures.refused _ _ _

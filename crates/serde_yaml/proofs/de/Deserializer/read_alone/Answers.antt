-- What a stream gives, from what its first document gives.
use Rattle.yaml_shape.specs.DataView.{data_of}
use Rattle.serde_yaml.proofs.FirstDocument.{answers_weaker, stream_gives}
use Rattle.serde_yaml.proofs.de.Deserializer.read_alone.Goals as goal

pub returns-in-Ok : goal.returns-in-Ok
returns-in-Ok c =
    answers_weaker data_of _ _ (stream_gives c.in-Ok.ensures.found)
    c.read_first_alone.result c.read_first_alone.ensures

pub returns-in-Err : goal.returns-in-Err
returns-in-Err c = λ m. c.in-Err.ensures.refused _ _ _

-- The data of a stream that a text was parsed to is of the shape that it is read under.
use Rattle.yaml_shape.specs.DataView.{data_of}
use Rattle.serde_yaml.proofs.FirstDocument.{answers_weaker}
use Rattle.serde_yaml.proofs.TypedLaws.{answered_has, whole_input}
use Rattle.serde_yaml.proofs.de.input.data_from_stream.Goals as goal

pub returns-clause-typed : goal.returns-clause-typed
returns-clause-typed c =
    let p = c.requires.parsed in
    answered_has c.a_meaning_has_its_shape.ensures c.reading_gives_the_meaning.ensures c.args.limits c.args.schema.now
    c.args.id.0 p.input p.fault c.requires.within c.deserialize_limited.result
    (λ s at. answers_weaker data_of _ _ (whole_input p.input p.fault p.well_formed p.same)
    c.deserialize_limited.result (c.deserialize_limited.ensures.gives s at))

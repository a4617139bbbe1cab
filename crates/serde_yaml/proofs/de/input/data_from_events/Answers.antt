-- The data of a stream's one document is what the input gives and what it means, of the shape that it is read under.
use Rattle.yaml_shape.specs.DataView.{data_of}
use Rattle.yaml_read.specs.MarkedEvents.{plain_marked}
use Rattle.serde_yaml.proofs.FirstDocument.{answers_weaker}
use Rattle.serde_yaml.proofs.TypedLaws.{stream_input, refused_input, answered_has}
use Rattle.serde_yaml.proofs.de.input.data_from_events.Goals as goal

pub returns-in-Ok-clause-given : goal.returns-in-Ok-clause-given
returns-in-Ok-clause-given c = λ s at.
    answers_weaker data_of _ _
    (stream_input c.args.events.items c.args.fault c.in-Ok.ensures.accepted c.in-Ok.ensures.documents)
    c.deserialize_limited.result (c.deserialize_limited.ensures.gives s at)

pub returns-in-Ok-clause-meaning : goal.returns-in-Ok-clause-meaning
returns-in-Ok-clause-meaning c = λ s at.
    answers_weaker data_of _ _
    (c.reading_gives_the_meaning.ensures c.args.limits c.args.schema.now s (plain_marked c.args.events.items)
    c.args.fault) c.deserialize_limited.result (returns-in-Ok-clause-given c s at)

pub returns-in-Ok-clause-typed : goal.returns-in-Ok-clause-typed
returns-in-Ok-clause-typed c =
    answered_has c.a_meaning_has_its_shape.ensures c.reading_gives_the_meaning.ensures c.args.limits c.args.schema.now
    c.args.id.0 (plain_marked c.args.events.items) c.args.fault c.requires c.deserialize_limited.result
    (returns-in-Ok-clause-given c)

pub returns-in-Err-clause-given : goal.returns-in-Err-clause-given
returns-in-Err-clause-given c = λ s at m.
    refused_input c.args.events.items c.args.fault c.in-Err.refused (c.in-Err.ensures.wrong m)

pub returns-in-Err-clause-meaning : goal.returns-in-Err-clause-meaning
returns-in-Err-clause-meaning c = λ s at m.
    c.reading_gives_the_meaning.ensures c.args.limits c.args.schema.now s (plain_marked c.args.events.items)
    c.args.fault _ (returns-in-Err-clause-given c s at m)

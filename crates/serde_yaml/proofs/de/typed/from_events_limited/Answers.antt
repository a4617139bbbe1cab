-- What a type makes of the data of a stream's one document is what the input gives as a value of it.
use Rattle.std.proofs.Common.{refl, Ok, Err}
use Rattle.yaml_shape.specs.DataView.{data_of}
use Rattle.yaml_types.specs.Start.{IsClosed}
use Rattle.yaml_read.specs.MarkedEvents.{plain_marked}
use Rattle.serde_yaml.proofs.TypedLaws.{no_type, no_value, type_gives, value_given}
use Rattle.serde_yaml.proofs.de.typed.from_events_limited.Goals as goal

pub returns-in-Err-clause-given : goal.returns-in-Err-clause-given
returns-in-Err-clause-given g c =
    no_type c.args.limits g.T.Deserialize.start g.T.Deserialize.built g.T.Deserialize.refused
    (plain_marked c.args.events.items) c.args.fault c.in-Err.refused c.schema_refusal.result c.in-Err.ensures.refused
    c.schema_refusal.ensures

pub returns-in-Err-clause-meaning : goal.returns-in-Err-clause-meaning
returns-in-Err-clause-meaning g c = λ m.
    value_given c.args.limits g.T.Deserialize.start g.T.Deserialize.built g.T.Deserialize.refused
    (plain_marked c.args.events.items) c.args.fault c.reading_gives_the_meaning.ensures
    (returns-in-Err-clause-given g c m)

pub returns-in-Ok-build-clause-given : goal.returns-in-Ok-build-clause-given
returns-in-Ok-build-clause-given g c =
    let closed : IsClosed g.T.Deserialize.start = (g.met.T.Deserialize c.lifetimes (assumption c)).closed in
    type_gives c.args.limits g.T.Deserialize.start g.T.Deserialize.built g.T.Deserialize.refused
    (plain_marked c.args.events.items) c.args.fault _ _ (Ok (data_of c.in-Ok-data_from_events.found))
    (Ok c.in-Ok-build.value) c.in-Ok.ensures.ok.table c.in-Ok.ensures.ok.number closed c.is_valid.ensures
    c.in-Ok-data_from_events.ensures.given c.in-Ok-build.ensures.ok

pub returns-in-Ok-build-clause-meaning : goal.returns-in-Ok-build-clause-meaning
returns-in-Ok-build-clause-meaning g c =
    value_given c.args.limits g.T.Deserialize.start g.T.Deserialize.built g.T.Deserialize.refused
    (plain_marked c.args.events.items) c.args.fault c.reading_gives_the_meaning.ensures
    (returns-in-Ok-build-clause-given g c)

pub returns-in-Ok-data_from_events-clause-given : goal.returns-in-Ok-data_from_events-clause-given
returns-in-Ok-data_from_events-clause-given g c = λ m.
    let closed : IsClosed g.T.Deserialize.start = (g.met.T.Deserialize c.lifetimes (assumption c)).closed in
    type_gives c.args.limits g.T.Deserialize.start g.T.Deserialize.built g.T.Deserialize.refused
    (plain_marked c.args.events.items) c.args.fault _ _ (Ok (data_of c.in-Ok-data_from_events.found))
    (Err c.build_refusal.result) c.in-Ok.ensures.ok.table c.in-Ok.ensures.ok.number closed c.is_valid.ensures
    c.in-Ok-data_from_events.ensures.given
    (no_value g.T.Deserialize.built g.T.Deserialize.refused (data_of c.in-Ok-data_from_events.found)
    c.in-Err-build.refused c.build_refusal.result c.in-Err-build.ensures.refused c.build_refusal.ensures m)

pub returns-in-Ok-data_from_events-clause-meaning : goal.returns-in-Ok-data_from_events-clause-meaning
returns-in-Ok-data_from_events-clause-meaning g c = λ m.
    value_given c.args.limits g.T.Deserialize.start g.T.Deserialize.built g.T.Deserialize.refused
    (plain_marked c.args.events.items) c.args.fault c.reading_gives_the_meaning.ensures
    (returns-in-Ok-data_from_events-clause-given g c m)

pub returns-clause-given : goal.returns-clause-given
returns-clause-given g c = λ m.
    let closed : IsClosed g.T.Deserialize.start = (g.met.T.Deserialize c.lifetimes (assumption c)).closed in
    type_gives c.args.limits g.T.Deserialize.start g.T.Deserialize.built g.T.Deserialize.refused
    (plain_marked c.args.events.items) c.args.fault _ _ (Err c.in-Err-data_from_events.refused)
    (Err c.in-Err-data_from_events.refused) c.in-Ok.ensures.ok.table c.in-Ok.ensures.ok.number closed c.is_valid.ensures
    (λ s at. c.in-Err-data_from_events.ensures.given s at m) refl

pub returns-clause-meaning : goal.returns-clause-meaning
returns-clause-meaning g c = λ m.
    value_given c.args.limits g.T.Deserialize.start g.T.Deserialize.built g.T.Deserialize.refused
    (plain_marked c.args.events.items) c.args.fault c.reading_gives_the_meaning.ensures (returns-clause-given g c m)

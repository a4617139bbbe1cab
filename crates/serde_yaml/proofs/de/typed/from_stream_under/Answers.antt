-- What a type makes of the data of a stream's one document is what the stream's input gives as a value of it.
use Rattle.std.proofs.Common.{refl, Ok, Err}
use Rattle.yaml_shape.specs.DataView.{data_of}
use Rattle.yaml_types.specs.Start.{IsClosed}
use Rattle.serde_yaml.proofs.TypedLaws.{no_type, no_value, type_gives, value_given, whole_input}
use Rattle.serde_yaml.proofs.de.typed.from_stream_under.Goals as goal

pub returns-in-Ok-build-clause-given : goal.returns-in-Ok-build-clause-given
returns-in-Ok-build-clause-given g c = λ input fault is formed.
    let closed : IsClosed g.T.Deserialize.start = (g.met.T.Deserialize c.lifetimes (assumption c)).closed in
    let given = Ok (data_of c.in-Ok.found) in
    type_gives c.args.limits g.T.Deserialize.start g.T.Deserialize.built g.T.Deserialize.refused input fault _ _
    given (Ok c.in-Ok-build.value) c.requires.table c.requires.number closed c.is_valid.ensures
    (λ s at. whole_input input fault formed is given (c.in-Ok.ensures.gives s at))
    c.in-Ok-build.ensures.ok

pub returns-in-Ok-build-clause-meaning : goal.returns-in-Ok-build-clause-meaning
returns-in-Ok-build-clause-meaning g c = λ input fault is formed.
    value_given c.args.limits g.T.Deserialize.start g.T.Deserialize.built g.T.Deserialize.refused input fault
    c.reading_gives_the_meaning.ensures (returns-in-Ok-build-clause-given g c input fault is formed)

pub returns-in-Err-build-clause-given : goal.returns-in-Err-build-clause-given
returns-in-Err-build-clause-given g c = λ input fault is formed m.
    let closed : IsClosed g.T.Deserialize.start = (g.met.T.Deserialize c.lifetimes (assumption c)).closed in
    let found = data_of c.in-Ok.found in
    type_gives c.args.limits g.T.Deserialize.start g.T.Deserialize.built g.T.Deserialize.refused input fault _ _
    (Ok found) (Err c.build_refusal.result) c.requires.table c.requires.number closed
    c.is_valid.ensures
    (λ s at. whole_input input fault formed is (Ok found) (c.in-Ok.ensures.gives s at))
    (no_value g.T.Deserialize.built g.T.Deserialize.refused found c.in-Err-build.reason c.build_refusal.result
    c.in-Err-build.ensures.refused c.build_refusal.ensures m)

pub returns-in-Err-build-clause-meaning : goal.returns-in-Err-build-clause-meaning
returns-in-Err-build-clause-meaning g c = λ input fault is formed m.
    value_given c.args.limits g.T.Deserialize.start g.T.Deserialize.built g.T.Deserialize.refused input fault
    c.reading_gives_the_meaning.ensures (returns-in-Err-build-clause-given g c input fault is formed m)

pub returns-in-Err-clause-given : goal.returns-in-Err-clause-given
returns-in-Err-clause-given g c = λ input fault is formed m.
    let closed : IsClosed g.T.Deserialize.start = (g.met.T.Deserialize c.lifetimes (assumption c)).closed in
    let given = Err c.in-Err.refused in
    type_gives c.args.limits g.T.Deserialize.start g.T.Deserialize.built g.T.Deserialize.refused input fault _ _
    given (Err c.in-Err.refused) c.requires.table c.requires.number closed
    c.is_valid.ensures
    (λ s at. whole_input input fault formed is given (c.in-Err.ensures.gives s at m)) refl

pub returns-in-Err-clause-meaning : goal.returns-in-Err-clause-meaning
returns-in-Err-clause-meaning g c = λ input fault is formed m.
    value_given c.args.limits g.T.Deserialize.start g.T.Deserialize.built g.T.Deserialize.refused input fault
    c.reading_gives_the_meaning.ensures (returns-in-Err-clause-given g c input fault is formed m)

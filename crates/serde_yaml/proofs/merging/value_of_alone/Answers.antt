-- What a type makes of the data of the one document, once its merge keys are treated.
use Rattle.std.proofs.Common.{refl, Ok, Err}
use Rattle.yaml_shape.specs.DataView.{data_of}
use Rattle.yaml_types.specs.Start.{IsClosed}
use Rattle.serde_yaml.proofs.MergedLaws.{no_type_made, type_makes}
use Rattle.serde_yaml.proofs.TypedLaws.{no_value}
use Rattle.serde_yaml.proofs.merging.value_of_alone.Goals as goal

pub returns-in-Err : goal.returns-in-Err
returns-in-Err g c =
    no_type_made c.args.limits g.T.Deserialize.start g.T.Deserialize.built g.T.Deserialize.refused c.args.merge
    c.args.documents c.in-Err.reason c.schema_refusal.result c.in-Err.ensures.refused c.schema_refusal.ensures

pub returns-in-Ok-build : goal.returns-in-Ok-build
returns-in-Ok-build g c =
    let closed : IsClosed g.T.Deserialize.start = (g.met.T.Deserialize c.lifetimes (assumption c)).closed in
    type_makes c.args.limits g.T.Deserialize.start g.T.Deserialize.built g.T.Deserialize.refused c.args.merge
    c.args.documents _ _ (Ok (data_of c.in-Ok-data_of_alone.found)) (Ok c.in-Ok-build.value) c.in-Ok.ensures.ok.table
    c.in-Ok.ensures.ok.number closed c.is_valid.ensures c.in-Ok-data_of_alone.ensures.given c.in-Ok-build.ensures.ok

pub returns-in-Ok-data_of_alone : goal.returns-in-Ok-data_of_alone
returns-in-Ok-data_of_alone g c = λ m.
    let closed : IsClosed g.T.Deserialize.start = (g.met.T.Deserialize c.lifetimes (assumption c)).closed in
    let found = data_of c.in-Ok-data_of_alone.found in
    type_makes c.args.limits g.T.Deserialize.start g.T.Deserialize.built g.T.Deserialize.refused c.args.merge
    c.args.documents _ _ (Ok found) (Err c.build_refusal.result) c.in-Ok.ensures.ok.table c.in-Ok.ensures.ok.number
    closed c.is_valid.ensures c.in-Ok-data_of_alone.ensures.given
    (no_value g.T.Deserialize.built g.T.Deserialize.refused found c.in-Err-build.reason c.build_refusal.result
    c.in-Err-build.ensures.refused c.build_refusal.ensures m)

pub returns : goal.returns
returns g c = λ m.
    let closed : IsClosed g.T.Deserialize.start = (g.met.T.Deserialize c.lifetimes (assumption c)).closed in
    type_makes c.args.limits g.T.Deserialize.start g.T.Deserialize.built g.T.Deserialize.refused c.args.merge
    c.args.documents _ _ (Err c.in-Err-data_of_alone.fault) (Err c.in-Err-data_of_alone.fault)
    c.in-Ok.ensures.ok.table c.in-Ok.ensures.ok.number closed c.is_valid.ensures
    (λ s at. c.in-Err-data_of_alone.ensures.given s at m) refl

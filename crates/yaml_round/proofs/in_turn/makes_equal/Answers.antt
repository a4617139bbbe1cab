-- What is made of the document is equal, where each value that is made is.
use Rattle.std.proofs.Common.{◌≡◌, ◌<◌, ◌∙◌, Err, Ok, ap, length, refl, subst, sym, true}
use Rattle.yaml_shape.specs.DataView.{data_of}
use Rattle.yaml_shape.specs.HasShape.{HasShape}
use Rattle.yaml_types.specs.Start.{IsClosed}
use Rattle.serde_yaml.proofs.MergedLaws.{given_shape}
use Rattle.serde_yaml.proofs.TypedLaws.{no_value}
use Rattle.yaml_round.proofs.ComparedLaws.{document_compared}
use Rattle.yaml_round.proofs.InTurnLaws.{is_made_equal}
use Rattle.yaml_round.proofs.TypedReturn.{same_value}
use Rattle.yaml_round.proofs.in_turn.makes_equal.Goals as goal

pub build-requires : goal.build-requires
build-requires g c κs =
    let closed : IsClosed g.T.Deserialize.start = (g.met.T.Deserialize c.lifetimes (assumption c)).closed in
    let within : c.args.id.0 < length c.args.schema.now =
    subst (λ t. c.args.id.0 < length t) (sym c.requires.table)
    (subst (λ i. i < length g.T.Deserialize.start.0) (sym c.requires.number) closed.within) in (
      (refl, tt),
      subst (λ t. HasShape t g.T.Deserialize.start.1 (data_of c.in-Ok.found)) c.requires.table
          (subst (λ i. HasShape c.args.schema.now i (data_of c.in-Ok.found)) c.requires.number
          (given_shape c.a_meaning_has_its_shape.ensures c.args.limits c.args.schema.now c.args.id.0
          c.args.document.now (data_of c.in-Ok.found) c.has_tree.ensures within (λ s at. c.in-Ok.ensures s at))),
    )

pub returns-in-Ok-build-clause-equal : goal.returns-in-Ok-build-clause-equal
returns-in-Ok-build-clause-equal g c = λ equal.
    let closed : IsClosed g.T.Deserialize.start = (g.met.T.Deserialize c.lifetimes (assumption c)).closed in
    let r = is_made_equal c.args.limits g.T.Deserialize.start g.T.Deserialize.built g.T.Deserialize.refused
    g.T.PartialEq.eq c.args.value.now c.args.document.now c.args.schema.now c.args.id.0 (Ok (data_of c.in-Ok.found))
    (Ok c.in-Ok-build.again) c.requires.table c.requires.number closed equal (λ s at. c.in-Ok.ensures s at)
    c.in-Ok-build.ensures.ok in
    let e : r.0 ≡ c.in-Ok-build.again = sym (same_value r.1) in
    ap Ok (c.eq.ensures ∙ subst (λ y. g.T.PartialEq.eq c.args.value.now y ≡ true) e r.2)

pub returns-in-Err-build-clause-equal : goal.returns-in-Err-build-clause-equal
returns-in-Err-build-clause-equal g c = λ equal m.
    let closed : IsClosed g.T.Deserialize.start = (g.met.T.Deserialize c.lifetimes (assumption c)).closed in
    let found = data_of c.in-Ok.found in
    let r = is_made_equal c.args.limits g.T.Deserialize.start g.T.Deserialize.built g.T.Deserialize.refused
    g.T.PartialEq.eq c.args.value.now c.args.document.now c.args.schema.now c.args.id.0 (Ok found) (Err c.into.result)
    c.requires.table c.requires.number closed equal (λ s at. c.in-Ok.ensures s at)
    (no_value g.T.Deserialize.built g.T.Deserialize.refused found c.in-Err-build.refused c.into.result
    c.in-Err-build.ensures.refused c.into.ensures m) in
    let bad = r.1 in absurd cc

pub returns-in-Err-clause-equal : goal.returns-in-Err-clause-equal
returns-in-Err-clause-equal g c = λ equal m.
    let closed : IsClosed g.T.Deserialize.start = (g.met.T.Deserialize c.lifetimes (assumption c)).closed in
    let r = is_made_equal c.args.limits g.T.Deserialize.start g.T.Deserialize.built g.T.Deserialize.refused
    g.T.PartialEq.eq c.args.value.now c.args.document.now c.args.schema.now c.args.id.0 (Err c.in-Err.fault)
    (Err c.in-Err.fault) c.requires.table c.requires.number closed equal (λ s at. c.in-Err.ensures s at m) refl in
    let bad = r.1 in absurd cc

pub returns-in-Ok-build-clause-compared : goal.returns-in-Ok-build-clause-compared
returns-in-Ok-build-clause-compared g c =
    let closed : IsClosed g.T.Deserialize.start = (g.met.T.Deserialize c.lifetimes (assumption c)).closed in
    document_compared c.args.limits g.T.Deserialize.start g.T.Deserialize.built g.T.Deserialize.refused
    g.T.PartialEq.eq c.args.value.now c.args.document.now c.args.schema.now c.args.id.0 (Ok (data_of c.in-Ok.found))
    (Ok c.in-Ok-build.again) (Ok c.eq.result) c.requires.table c.requires.number closed (λ s at. c.in-Ok.ensures s at)
    c.in-Ok-build.ensures.ok (ap Ok c.eq.ensures)

pub returns-in-Err-build-clause-compared : goal.returns-in-Err-build-clause-compared
returns-in-Err-build-clause-compared g c = λ m.
    let closed : IsClosed g.T.Deserialize.start = (g.met.T.Deserialize c.lifetimes (assumption c)).closed in
    let found = data_of c.in-Ok.found in
    document_compared c.args.limits g.T.Deserialize.start g.T.Deserialize.built g.T.Deserialize.refused
    g.T.PartialEq.eq c.args.value.now c.args.document.now c.args.schema.now c.args.id.0 (Ok found)
    (Err c.into.result) (Err c.into.result) c.requires.table c.requires.number closed (λ s at. c.in-Ok.ensures s at)
    (no_value g.T.Deserialize.built g.T.Deserialize.refused found c.in-Err-build.refused c.into.result
    c.in-Err-build.ensures.refused c.into.ensures m) refl

pub returns-in-Err-clause-compared : goal.returns-in-Err-clause-compared
returns-in-Err-clause-compared g c = λ m.
    let closed : IsClosed g.T.Deserialize.start = (g.met.T.Deserialize c.lifetimes (assumption c)).closed in
    document_compared c.args.limits g.T.Deserialize.start g.T.Deserialize.built g.T.Deserialize.refused
    g.T.PartialEq.eq c.args.value.now c.args.document.now c.args.schema.now c.args.id.0 (Err c.in-Err.fault)
    (Err c.in-Err.fault) (Err c.in-Err.fault) c.requires.table c.requires.number closed
    (λ s at. c.in-Err.ensures s at m) refl refl

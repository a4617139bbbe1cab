-- What is written of a value is read as data that is equal to the value's, and of that an equal value is built.
use Rattle.std.proofs.Common.{◌≡◌, refl, subst, sym, true, None}
use Rattle.yaml_base.specs.Renders.{Renders}
use Rattle.yaml_shape.specs.EqualData.{EqualData}
use Rattle.yaml_read.specs.MarkedEvents.{events_in}
use Rattle.serde_yaml.specs.TypedReads.{TypeGives}
use Rattle.yaml_round.specs.ReadsBack.{ComesBack}
use Rattle.yaml_round.proofs.TypedReturn.{wrote, made_from, returned_of}
use Rattle.yaml_round.proofs.laws.a_written_value_reads_back.Goals as goal

pub returns : goal.returns
returns g c = λ limits x events input given named kept held fits writes rendered gives.
    let laws = g.met.T.RoundTrip c.lifetimes (assumption c) in
    let w = wrote events writes refl in
    let m = made_from limits g.T.Serialize.start g.T.Deserialize.built g.T.Deserialize.refused input w.valid
    (subst (λ start. TypeGives limits start g.T.Deserialize.built g.T.Deserialize.refused input None given)
    laws.one_schema gives) in
    let comes : ComesBack g.T.Serialize.start.0 g.T.Serialize.start.1 (g.T.Serialize.written x) input = record {
      root = w.root;
      is_written = w.is_written;
      rendered = subst (λ es. Renders es (events_in input)) (sym w.stream) rendered;
    } in
    let found = c.written_data_reads_back.ensures.given limits g.T.Serialize.start.0 g.T.Serialize.start.1 m.shape
    (g.T.Serialize.written x) input m.read w.valid named m.at held fits comes m.gives in
    let equal : EqualData (g.T.Serialize.written x) found.0 =
    c.equal_in_one_order_is_equal.ensures (g.T.Serialize.written x) found.0 found.2 in
    returned_of g.T.Deserialize.built g.T.Deserialize.refused (λ y. g.T.PartialEq.eq x y ≡ true) found.0 m.read given
    found.1 (λ y b. laws.returned x y found.0 kept equal b) (λ message r. laws.accepted x found.0 message equal r)
    m.makes

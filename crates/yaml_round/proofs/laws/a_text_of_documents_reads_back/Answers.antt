-- The text stands and is taken as it stands, so each of its documents comes back.
use Rattle.std.proofs.Common.{sym, subst}
use Rattle.yaml_round.specs.InTurn.{GivesEqualInTurn}
use Rattle.yaml_round.proofs.DocumentsReturn.{gives_equal}
use Rattle.yaml_round.proofs.laws.a_text_of_documents_reads_back.Goals as goal

pub returns : goal.returns
returns g c = λ limits xs text own short some fits.
    let laws = g.met.T.RoundTrip c.lifetimes (assumption c) in
    subst (λ start. GivesEqualInTurn limits start g.T.Deserialize.built g.T.Deserialize.refused g.T.PartialEq.eq xs
    text) (sym laws.one_schema)
    (gives_equal limits g.T.Serialize.start g.T.Serialize.written own.table g.T.Deserialize.built
    g.T.Deserialize.refused g.T.PartialEq.eq g.T.Serialize.kept (λ a b. c.equal_in_one_order_is_equal.ensures a b)
    (λ x y d keeps equal b. laws.returned x y d keeps equal b)
    (λ x d message equal r. laws.accepted x d message equal r)
    (λ roots input e. c.a_stream_is_cut_into_its_documents.ensures roots input e) xs text g.T.Serialize.unwritten own
    short some fits)

-- The law says what the documents of the values' own text make; of any text they are compared in turn.
use Rattle.std.proofs.Common.{◌<◌, Err, arith, length, subst, sym}
use Rattle.yaml_documents.specs.TextDocuments.{AreDocumentsOf}
use Rattle.serde_yaml.proofs.FirstDocument.{answers_weaker}
use Rattle.yaml_round.specs.Compared.{ComparesText, in_turn, untyped}
use Rattle.yaml_round.proofs.InTurnLaws.{few_shapes}
use Rattle.yaml_round.proofs.in_turn.reads_back.Goals as goal

pub returns-in-Err-clause-equal : goal.returns-in-Err-clause-equal
returns-in-Err-clause-equal g c = λ own short some fits m.
    let laws = g.met.T.RoundTrip c.lifetimes (assumption c) in
    let many : 4096 < length g.T.Serialize.start.0 =
    subst (λ start. 4096 < length start.0) laws.one_schema
    (c.refusal.ensures (length g.T.Deserialize.start.0) c.in-Err.ensures.refused m).0 in
    absurd (omega (arith, many, few_shapes own.printed))

pub returns-in-Err-clause-compared : goal.returns-in-Err-clause-compared
returns-in-Err-clause-compared g c = λ m.
    let no = c.refusal.ensures (length g.T.Deserialize.start.0) c.in-Err.ensures.refused m in
    subst (λ fault. ComparesText c.args.limits g.T.Deserialize.start g.T.Deserialize.built g.T.Deserialize.refused
    g.T.PartialEq.eq c.args.values.now c.args.text.now (Err fault)) (sym no.1) (untyped no.0)

pub returns-clause-equal : goal.returns-clause-equal
returns-clause-equal g c = λ own short some fits.
    c.make_equal.ensures.equal (c.a_text_of_documents_reads_back.ensures c.args.limits c.args.values.now c.args.text.now
    own short some fits c.in_ok-documents.documents
    (subst (λ text. AreDocumentsOf text c.in_ok-documents.documents) c.as_bytes.ensures.value
    c.in_ok-documents.ensures.documents))

pub returns-clause-compared : goal.returns-clause-compared
returns-clause-compared g c =
    answers_weaker (λ same. same) _ _
    (λ given each. in_turn c.in_ok-documents.documents
    (subst (λ text. AreDocumentsOf text c.in_ok-documents.documents) c.as_bytes.ensures.value
    c.in_ok-documents.ensures.documents) each) c.make_equal.result c.make_equal.ensures.compared

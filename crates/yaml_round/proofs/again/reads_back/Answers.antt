-- The law says what is read of the value's own text.
use Rattle.std.proofs.Common.{◌≡◌, Ok, Err, true, refl, sym, ap, ◌∙◌, subst}
use Rattle.yaml_round.proofs.ComparedLaws.{text_compared}
use Rattle.yaml_round.proofs.TextsTaken.{gives_of, in_text}
use Rattle.yaml_round.proofs.TypedReturn.{same_value}
use Rattle.yaml_round.proofs.again.reads_back.Goals as goal

pub returns-in-Ok-clause-equal : goal.returns-in-Ok-clause-equal
returns-in-Ok-clause-equal g c = λ own short fits.
    let r = c.a_written_text_reads_back.ensures c.args.limits c.args.value.now c.args.text.now own short fits
    (Ok c.in-Ok.again) (in_text c.as_bytes.ensures.value (gives_of c.in-Ok.ensures.given)) in
    let e : r.0 ≡ c.in-Ok.again = sym (same_value r.1) in
    ap Ok (c.eq.ensures ∙ subst (λ y. g.T.PartialEq.eq c.args.value.now y ≡ true) e r.2)

pub returns-in-Err-clause-equal : goal.returns-in-Err-clause-equal
returns-in-Err-clause-equal g c = λ own short fits m.
    let r = c.a_written_text_reads_back.ensures c.args.limits c.args.value.now c.args.text.now own short fits
    (Err c.in-Err.unread) (in_text c.as_bytes.ensures.value (gives_of (c.in-Err.ensures.given m))) in
    let bad = r.1 in absurd cc

pub returns-in-Ok-clause-compared : goal.returns-in-Ok-clause-compared
returns-in-Ok-clause-compared g c =
    text_compared c.args.limits g.T.Deserialize.start g.T.Deserialize.built g.T.Deserialize.refused g.T.PartialEq.eq
    c.args.value.now (Ok c.in-Ok.again) (Ok c.eq.result)
    (in_text c.as_bytes.ensures.value (gives_of c.in-Ok.ensures.given)) (ap Ok c.eq.ensures)

pub returns-in-Err-clause-compared : goal.returns-in-Err-clause-compared
returns-in-Err-clause-compared g c = λ m.
    text_compared c.args.limits g.T.Deserialize.start g.T.Deserialize.built g.T.Deserialize.refused g.T.PartialEq.eq
    c.args.value.now (Err c.in-Err.unread) (Err c.in-Err.unread)
    (in_text c.as_bytes.ensures.value (gives_of (c.in-Err.ensures.given m))) refl

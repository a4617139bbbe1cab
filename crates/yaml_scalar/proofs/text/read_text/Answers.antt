use Rattle.std.proofs.Common.{ap, sym, ◌∙◌}
use Rattle.std.specs.Prelude.{Err, is_some}
use Rattle.yaml_base.specs.DocEventView.{doc_scalar_of}
use Rattle.yaml_meaning.specs.ReadingGives.{lift}
use Rattle.yaml_scalar.proofs.TextLaws.{lent-shown, unlent-shown, text-shown, text-unshown}
use Rattle.yaml_scalar.proofs.text.read_text.Goals as goal

pub returns-in-Ok-clause-gives : goal.returns-in-Ok-clause-gives
returns-in-Ok-clause-gives c =
    let cases = c.in-Ok.ensures in
    ap lift (lent-shown (doc_scalar_of c.args.scalar.now) _ _ _ _ c.in-Some.ensures.equal cases.0
    cases.1 (sym c.in-Some.ensures.test) c.lent.ensures)

pub returns-in-Err-clause-gives : goal.returns-in-Err-clause-gives
returns-in-Err-clause-gives c = λ told.
    ap lift (unlent-shown (doc_scalar_of c.args.scalar.now) _ _ c.in-Some.ensures.equal c.in-Err.ensures)
    ∙ ap Err (sym (c.found_scalar.ensures told))

pub returns-in-Ok-clause-free : goal.returns-in-Ok-clause-free
returns-in-Ok-clause-free c = λ shown.
    sym (ap is_some (text-shown (doc_scalar_of c.args.scalar.now) _ c.in-Some.ensures.equal c.in-Ok.ensures.1))

pub returns-in-Err-clause-free : goal.returns-in-Err-clause-free
returns-in-Err-clause-free c = λ shown.
    sym (ap is_some
    (text-unshown (doc_scalar_of c.args.scalar.now) _ c.in-Some.ensures.equal c.in-Err.ensures))

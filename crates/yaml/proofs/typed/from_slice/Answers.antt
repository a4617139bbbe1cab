-- A text that is left is read by its tokens.
use Rattle.std.proofs.Common.{subst}
use Rattle.std.specs.Prelude.{IfNone}
use Rattle.yaml.proofs.CutOff.{is_allowed, of_all}
use Rattle.yaml_checked.specs.OfText.{MayBeLeft}
use Rattle.yaml.proofs.typed.from_slice.Goals as goal

pub returns-in_ok-documents-in-None-clause-one : goal.returns-in_ok-documents-in-None-clause-one
returns-in_ok-documents-in-None-clause-one g c =
    of_all c.from_documents.result c.args.text.now c.in_ok-documents-in-None.documents
    (c.in_ok-documents-in-None.ensures.left
    (subst (λ o. IfNone o (MayBeLeft c.args.text.now)) c.in-None.is c.in_ok-tape.ensures.left)) c.from_documents.ensures

pub returns-in_ok-documents-in-None-clause-allowed : goal.returns-in_ok-documents-in-None-clause-allowed
returns-in_ok-documents-in-None-clause-allowed g c =
    is_allowed c.from_documents.result c.args.text.now (returns-in_ok-documents-in-None-clause-one g c)

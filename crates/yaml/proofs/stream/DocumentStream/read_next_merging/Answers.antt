-- A document is handed out and read, or memory is wanting before.
use Rattle.std.proofs.Common.{Some, Err, refl, subst}
use Rattle.yaml.proofs.stream.DocumentStream.read_next_merging.Goals as goal
use Rattle.yaml.specs.NextDocument.{ReadsFurther, of_next, of_memory}
use Rattle.yaml_documents.specs.HandingOut.{HandsOut}

pub returns-in-Err-clause-next : goal.returns-in-Err-clause-next
returns-in-Err-clause-next g c =
    subst (λ old. ReadsFurther old c.next_document.new.self (Err c.in-Err.refused)) c.self.view_is
    (of_memory c.in-Err.refused refl c.in-Err.ensures.err.0 c.in-Err.ensures.err.1)

pub returns-clause-next : goal.returns-clause-next
returns-clause-next g c =
    let handed : HandsOut c.self.inside.documents (Some c.in_ok-document.document) c.next_document.new.self =
    subst (λ found. HandsOut c.self.inside.documents found c.next_document.new.self) c.in_ok-document.was
    c.in-Ok.ensures.ok in
    subst (λ old. ReadsFurther old c.next_document.new.self c.read_merging.result) c.self.view_is
    (of_next c.in_ok-document.document handed c.read_merging.ensures)

-- One document more was read, or the events behind the last.
use Rattle.std.proofs.Common.{IfSome, List, subst, ℕ}
use Rattle.yaml_documents.proofs.BatchLaws.{last_alone, last_behind, reads_first, reads_next}
use Rattle.yaml_documents.proofs.SourceLaws.{stays_on}
use Rattle.yaml_documents.proofs.filling.fill.Goals as goal
use Rattle.yaml_documents.specs.TextEvents.{AreEventsOf}

pub returns-in-None-clause-filled : goal.returns-in-None-clause-filled
returns-in-None-clause-filled c = last_alone c.requires.agree c.in-None.is c.in_ok-mark.ensures.on

pub documents-init : goal.documents-init
documents-init c = (
  c.in_ok-mark.ensures.stays,
  reads_first c.requires.closed c.requires.agree c.in-Some.is c.in_ok-mark.ensures.on c.in_ok-mark.ensures.of_text,
)

pub returns-in-None-2-clause-filled : goal.returns-in-None-2-clause-filled
returns-in-None-2-clause-filled c = last_behind c.documents.invariant.1 c.in-None-2.is c.in_ok-mark-2.ensures.on

pub documents-preserved : goal.documents-preserved
documents-preserved c = (
  stays_on c.documents.invariant.0 c.in_ok-mark-2.ensures.stays,
  reads_next c.requires.closed c.documents.invariant.1 c.in-Some-2.is c.in_ok-mark-2.ensures.on
      (subst (λ (t : List ℕ). IfSome c.in_ok-mark-2.field-0
      (λ _. AreEventsOf t c.read_on-in-documents.new.events.given))
      c.documents.invariant.0.text c.in_ok-mark-2.ensures.of_text),
)

pub returns-in-None-2-clause-stays : goal.returns-in-None-2-clause-stays
returns-in-None-2-clause-stays c = stays_on c.documents.invariant.0 c.in_ok-mark-2.ensures.stays

-- A batch is full, or the text's last.
use Rattle.std.proofs.Common.{◌∙◌, ap, is_some, refl, subst, sym}
use Rattle.yaml_documents.proofs.BatchLaws.{between_closed}
use Rattle.yaml_documents.proofs.StageLaws.{full_at, full_some, last_at}
use Rattle.yaml_documents.proofs.StateLaws.{well_formed_alike}
use Rattle.yaml_documents.proofs.TextLaws.{parsed_so, read_of}
use Rattle.yaml_documents.proofs.batch.try_batch.Goals as goal
use Rattle.yaml_documents.specs.TextEvents.{AreTheirs}
use Rattle.yaml_documents.specs.inner.Filling.{is_last, left_documents}
use Rattle.yaml_load.proofs.Words.{events_in, plain_events}

pub fill-requires-clause-closed : goal.fill-requires-clause-closed
fill-requires-clause-closed c = between_closed c.args.last c.args.events.given c.requires.between

pub left-requires : goal.left-requires
left-requires c =
    let read = rw c.in-Last.is at c.in_ok-filled.ensures.filled in
    well_formed_alike (is_some c.in_ok-fault-in-Last.fault) (events_in c.fill.new.builder)
    (plain_events c.fill.new.events.given) read.on.agree
    (c.in_ok-fault-in-Last.ensures.taken (c.in_ok-filled.ensures.over (ap is_last c.in-Last.is))
    (sym c.is_left.ensures.left ∙ c.if-is_left.false))

pub returns-in_ok-documents-in-Full-clause-loaded : goal.returns-in_ok-documents-in-Full-clause-loaded
returns-in_ok-documents-in-Full-clause-loaded c = (
  full_at c.args.last c.keep_place.new.self c.in-Full.mark c.requires.between c.in_ok-builder.ensures.front
      (rw (← c.keep_place.ensures.given) at (rw c.in-Full.is at c.in_ok-filled.ensures.filled))
      (c.keep_place.ensures.text ∙ c.in_ok-filled.ensures.stays.text) c.in_ok-documents-in-Full.ensures.documents
      (c.keep_place.ensures.kept c.if-not-keep_place.false),
  (λ none. absurd (full_some c.args.last c.in_ok-builder.ensures.front
      (rw c.in-Full.is at c.in_ok-filled.ensures.filled) (sym c.in_ok-documents-in-Full.ensures.documents ∙ none))),
  refl,
)

pub returns-in_ok-documents-in-Last-clause-loaded : goal.returns-in_ok-documents-in-Last-clause-loaded
returns-in_ok-documents-in-Last-clause-loaded c =
    let fault = c.in_ok-fault-in-Last.fault in
    let known = c.has_events.ensures in
    let ended = c.in_ok-fault-in-Last.ensures in (
      last_at c.args.last fault c.requires.between c.in_ok-builder.ensures.front
          (rw c.in-Last.is at c.in_ok-filled.ensures.filled)
          (parsed_so (read_of c.in_ok-filled.ensures.stays.text
          (ended.taken (c.in_ok-filled.ensures.over (ap is_last c.in-Last.is))
          (sym c.is_left.ensures.left ∙ c.if-is_left.false))
          known.sources known.plain known.marks known.places ended.allowed ended.none ended.refused)
          (subst (λ t. AreTheirs t c.fill.new.events.given fault) c.in_ok-filled.ensures.stays.text
          (ended.theirs (c.in_ok-filled.ensures.over (ap is_last c.in-Last.is))
          (sym c.is_left.ensures.left ∙ c.if-is_left.false))))
          (c.in_ok-documents-in-Last.ensures.left
          ∙ ap (λ b. left_documents c.fill.new.builder fault b c.in-Last.some) c.is_some-before.ensures),
      (λ _. refl),
      refl,
    )

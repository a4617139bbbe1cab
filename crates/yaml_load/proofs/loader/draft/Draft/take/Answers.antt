-- The draft goes over each event as the method for its kind says.
use Rattle.yaml_load.proofs.Words.{IfSome, None, Option, Some, ap, event_of}
use Rattle.yaml_load.proofs.loader.draft.Draft.take.Goals as goal

-- what holds is there for a result too
if_some : {X : Type 0} {P : Type 0} (found : Option X) → P → IfSome found (λ _. P)
if_some None h = tt
if_some (Some x) h = h

pub returns-in-DocumentStart : goal.returns-in-DocumentStart
returns-in-DocumentStart c =
    rw (ap event_of c.in-DocumentStart.is)
    (c.begin_document.ensures c.args.outer.now.items c.args.mark c.requires.clean)

pub returns-in-DocumentEnd : goal.returns-in-DocumentEnd
returns-in-DocumentEnd c = rw (ap event_of c.in-DocumentEnd.is)
    (c.end_document.ensures c.args.outer.now.items c.args.mark c.requires.clean)

pub returns-in-StreamStart : goal.returns-in-StreamStart
returns-in-StreamStart c =
    rw (ap event_of c.in-StreamStart.is) (
      c.after_stream_start.ensures c.args.outer.now.items c.requires.clean,
      if_some c.after_stream_start.result (λ fault all rest (w : _).
          record { documents = w.documents; between = w.between; complete = w.complete }),
    )

pub returns-in-StreamEnd : goal.returns-in-StreamEnd
returns-in-StreamEnd c =
    rw (ap event_of c.in-StreamEnd.is) (
      c.after_stream_end.ensures c.args.outer.now.items c.requires.clean,
      if_some c.after_stream_end.result (λ fault all rest (w : _).
          record { documents = w.documents; between = w.between; complete = w.complete }),
    )

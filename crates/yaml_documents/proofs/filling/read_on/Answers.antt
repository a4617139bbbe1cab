-- A loader refuses no event of the text, and took all that were read.
use Rattle.std.proofs.Common.{arith, ◌≡◌, ◌∙◌, ◌∷◌, ◌++◌, [], List, None, Option, Some, ap, option_to_list, sym}
use Rattle.yaml_base.specs.Answer.{is_memory}
use Rattle.yaml_base.specs.PlainEvent.{event_of}
use Rattle.yaml_base.specs.Position.{Position}
use Rattle.yaml_base.specs.declared.event.Event.{Event}
use Rattle.yaml_documents.proofs.ReadLaws.{ends_not, ends_now, read_never_refused, reads_more}
use Rattle.yaml_documents.proofs.SourceLaws.{stays_on}
use Rattle.yaml_documents.proofs.TextLaws.{not_false}
use Rattle.yaml_documents.proofs.filling.read_on.Goals as goal

-- one event more was given
more : (given now : List (Event × Position)) (found : Option (Event × Position)) (e : Event × Position)
    → now ≡ given ++ option_to_list found → found ≡ Some e → now ≡ given ++ e ∷ []
more given now found e is some = is ∙ ap (λ (f : Option (Event × Position)). given ++ option_to_list f) some

pub returns-in-Err-clause-memory : goal.returns-in-Err-clause-memory
returns-in-Err-clause-memory c =
    let e : Event × Position = (c.in-Some.event, c.in-Some.mark) in
    not_false (is_memory c.in-Err.fault) (λ other.
    read_never_refused c.events.events.given c.next_event.new.self.given c.events.builder e
    c.events.invariant.1.agree (more _ _ _ e c.in_ok-event.ensures.given c.in-Some.is)
    c.has_events.ensures.begins (c.in-Err.ensures.wrong other).1)

pub returns-then-ends-clause-on : goal.returns-then-ends-clause-on
returns-then-ends-clause-on c =
    let e : Event × Position = (c.in-Some.event, c.in-Some.mark) in
    let on = c.events.invariant.1 in
    reads_more c.args.events.now.given c.args.builder.now c.events.events.given c.next_event.new.self.given
    c.events.builder c.push.new.self e (Some e.1) on (more _ _ _ e c.in_ok-event.ensures.given c.in-Some.is)
    c.in_default-push.ensures.taken
    (ends_now on.more (event_of e.0) e.1 on.ends (sym c.is_end-ends.ensures ∙ c.if-ends.true))

pub events-preserved : goal.events-preserved
events-preserved c =
    let e : Event × Position = (c.in-Some.event, c.in-Some.mark) in
    let on = c.events.invariant.1 in (
      stays_on c.events.invariant.0 c.in_ok-event.ensures.stays,
      reads_more c.args.events.now.given c.args.builder.now c.events.events.given c.next_event.new.self.given
          c.events.builder c.push.new.self e None on (more _ _ _ e c.in_ok-event.ensures.given c.in-Some.is)
          c.in_default-push.ensures.taken
          (ends_not on.more (event_of e.0, e.1) on.ends (sym c.is_end-ends.ensures ∙ c.if-ends.false)),
      omega (arith, c.saturating_sub-left.ensures, c.events.invariant.2),
    )

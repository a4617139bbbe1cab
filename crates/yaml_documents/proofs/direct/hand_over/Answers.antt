-- A loader refuses no event of a beginning of a stream.
use Rattle.std.proofs.Common.{◌∙◌, ◌++◌, Option, ap, option_to_list}
use Rattle.yaml_base.specs.Answer.{is_memory}
use Rattle.yaml_base.specs.Position.{Position}
use Rattle.yaml_base.specs.declared.event.Event.{Event}
use Rattle.yaml_documents.proofs.TextLaws.{never_wrong, not_false}
use Rattle.yaml_documents.proofs.direct.hand_over.Goals as goal

pub returns-in-Err-clause-memory : goal.returns-in-Err-clause-memory
returns-in-Err-clause-memory c =
    not_false (is_memory c.in-Err.fault) (λ other.
    never_wrong c.events.builder c.events.events.given c.next_event.new.self.given
    (c.in-Ok-Some.event, c.in-Ok-Some.mark) c.events.invariant.1
    (c.in-Ok-Some.ensures.given
    ∙ ap (λ (f : Option (Event × Position)). c.events.events.given ++ option_to_list f) c.in-Ok-Some.field-0-is)
    c.has_events.ensures.begins (c.in-Err.ensures.wrong other).1)

-- The events of the documents of a text go on.
use Rattle.std.proofs.Common.{◌≡◌, ◌∙◌, refl, subst, sym}
use Rattle.std.specs.Prelude.{IfNone}
use Rattle.yaml_base.specs.MarkedEvents.{plain_marked}
use Rattle.yaml_grammar.specs.Documents.{Stands}
use Rattle.yaml_grammar.specs.Nodes.{events_of}
use Rattle.yaml_checked.proofs.GivenLaws.{goes_on_way, memory_of, none_for_all, on_way, parts_view}
use Rattle.yaml_checked.proofs.events.TapeEvents.next_event.Goals as goal
use Rattle.yaml_checked.specs.OfText.{IsOfText}

pub returns-in-Ok-clause-of_text : goal.returns-in-Ok-clause-of_text
returns-in-Ok-clause-of_text c = λ of_text ds stand.
    let inside = c.self.inside in
    goes_on_way (parts_view c.go_on.new.given c.go_on.new.rest inside.refused) c.go_on.new.rest ds
    (c.in-Ok.ensures.same ∙ inside.same ∙ sym c.in-Ok.ensures.text) refl refl c.in_default.is
    (c.in-Ok.ensures.way ds
    (on_way (parts_view inside.given inside.rest inside.refused) inside.rest ds inside.same refl refl c.in_default.is
    (subst IsOfText (sym c.self.view_is) of_text) (subst (λ t. Stands t ds) c.in-Ok.ensures.text stand)))

pub returns-in-Ok-clause-whole : goal.returns-in-Ok-clause-whole
returns-in-Ok-clause-whole c = λ of_text.
    let inside = c.self.inside in
    let text = c.go_on.new.given.text.now in
    let events = plain_marked c.go_on.new.given.events.items in
    none_for_all c.in-Ok.found (λ ds. Stands text ds) (λ ds. events ≡ events_of text ds) (λ ds stand.
    subst (λ t. IfNone c.in-Ok.found (events ≡ events_of t ds))
    (c.in-Ok.ensures.same ∙ inside.same ∙ sym c.in-Ok.ensures.text)
    (c.in-Ok.ensures.all ds
    (on_way (parts_view inside.given inside.rest inside.refused) inside.rest ds inside.same refl refl c.in_default.is
    (subst IsOfText (sym c.self.view_is) of_text) (subst (λ t. Stands t ds) c.in-Ok.ensures.text stand))))

pub returns-in-Err-clause-of_text : goal.returns-in-Err-clause-of_text
returns-in-Err-clause-of_text c = λ of_text ds stand.
    let inside = c.self.inside in
    memory_of c.in-Err.refusal (λ other.
    c.in-Err.ensures.left other ds
    (on_way (parts_view inside.given inside.rest inside.refused) inside.rest ds inside.same refl refl c.in_default.is
    (subst IsOfText (sym c.self.view_is) of_text) (subst (λ t. Stands t ds) c.in-Err.ensures.text stand)))

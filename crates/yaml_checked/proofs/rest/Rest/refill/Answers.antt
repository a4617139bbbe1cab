-- A document more, or the end of the text.
use Rattle.std.proofs.Common.{◌∙◌, refl, sym}
use Rattle.yaml_checked.proofs.WayLaws.{document_filled, end_filled}
use Rattle.yaml_checked.proofs.rest.Rest.refill.Goals as goal

pub returns-in-Document-clause-way : goal.returns-in-Document-clause-way
returns-in-Document-clause-way c = λ ds before way.
    document_filled c.in-Some.documents c.advance.new.self c.take_tape-tape.new.self way c.requires (sym c.take.ensures.value ∙ c.in-Some.is)
    (λ read h. c.in_ok-advance.ensures.stands read h c.in-Document.is) c.in_ok-advance.ensures.text
    c.take_tape-tape.ensures.text c.take_tape-tape.ensures.of_text c.take_tape-tape.ensures.taken c.take_tape-tape.ensures.none
    c.take_tape-tape.ensures.read refl refl

pub returns-in-End-clause-way : goal.returns-in-End-clause-way
returns-in-End-clause-way c = λ ds before way.
    end_filled c.in-Some.documents c.advance.new.self way c.requires (sym c.take.ensures.value ∙ c.in-Some.is)
    (λ read h. c.in_ok-advance.ensures.whole read h c.in-End.is) c.in_ok-advance.ensures.text
    c.take_tape-tape-in-End.ensures.of_text c.take_tape-tape-in-End.ensures.taken refl c.take.ensures.after

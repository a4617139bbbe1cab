-- No such character begins in a text of the grammar's characters.
use Rattle.std.proofs.Common.{refl, sym, ◌∙◌}
use Rattle.std.proofs.lemmas.Bool.{false≢true}
use Rattle.yaml_direct.proofs.CharacterLaws.{nothing_in_rest}
use Rattle.yaml_direct.proofs.text.has_forbidden.Goals as goal

pub returns-then-begins_forbidden : goal.returns-then-begins_forbidden
returns-then-begins_forbidden c = λ h.
    absurd (false≢true (sym (nothing_in_rest c.args.text.now c.in-Some-get.rest.now c.in-Some.place h
    c.in-Some-get.ensures.lookup.0.2) ∙ c.if-begins_forbidden.ensures refl))

-- What is taken out of the place of the key is taken out at the key.
use Rattle.std.proofs.Common.{ap, ◌∙◌}
use Rattle.std.specs.Prelude.{option_and_then}
use Rattle.yaml_value.specs.Find.{value_in_place, without_found}
use Rattle.yaml_value.specs.PlainEqual.{plain_eq}
use Rattle.yaml_value.specs.View.{entry_pairs, plain}
use Rattle.yaml_value.proofs.Views.{value_where-place, without_key-place}
use Rattle.yaml_value.proofs.mapping.remove_key.Goals as goal

pub returns-clause-after : goal.returns-clause-after
returns-clause-after c =
    let ps = entry_pairs c.args.entries.now.items in
    c.taken_from.ensures.after
    ∙ (ap (λ place. without_found place ps) c.place_among-place.ensures.place
    ∙ without_key-place (plain c.args.key.now) ps)

pub returns-clause-answer : goal.returns-clause-answer
returns-clause-answer c =
    let ps = entry_pairs c.args.entries.now.items in
    c.value_taken.ensures
    ∙ (c.taken_from.ensures.answer
    ∙ (ap (option_and_then (λ i. value_in_place i ps)) c.place_among-place.ensures.place
    ∙ value_where-place (plain_eq (plain c.args.key.now)) ps))

pub returns-clause-sound : goal.returns-clause-sound
returns-clause-sound c = c.taken_from.ensures.sound c.requires

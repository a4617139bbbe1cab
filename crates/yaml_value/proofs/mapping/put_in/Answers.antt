-- The pair in the place has another value.
use Rattle.std.proofs.Common.{ap, sym, ◌∙◌, Some}
use Rattle.yaml_value.specs.View.{plain, plain_entry}
use Rattle.yaml_value.proofs.Indexed.{sound-put}
use Rattle.yaml_value.proofs.Views.{entry_pairs-put, value_in_place-at}
use Rattle.yaml_value.proofs.mapping.put_in.Goals as goal

pub returns-clause-after : goal.returns-clause-after
returns-clause-after c =
    entry_pairs-put c.args.entries.now.items c.args.i c.put_value.new.entry c.index_mut.result.now (plain c.args.value)
    (c.put_value.ensures.after ∙ ap (λ e. ((plain_entry e).0, plain c.args.value)) c.index_mut.ensures.value)

pub returns-clause-answer : goal.returns-clause-answer
returns-clause-answer c =
    value_in_place-at c.args.entries.now.items c.args.i c.index_mut.result.now c.requires c.index_mut.ensures.value
    ∙ ap Some (sym c.put_value.ensures.answer)

pub returns-clause-sound : goal.returns-clause-sound
returns-clause-sound c = λ sound.
    sound-put c.args.entries.now.items c.args.i c.put_value.new.entry c.index_mut.result.now c.index_mut.ensures.value
    (ap (λ p. p.0) c.put_value.ensures.after) c.put_value.ensures.last c.put_value.ensures.earlier sound

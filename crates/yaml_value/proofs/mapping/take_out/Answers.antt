-- The others are the pairs without the one in the place.
use Rattle.std.proofs.Common.{ap, ◌∙◌}
use Rattle.yaml_value.specs.Distinct.{keys_distinct}
use Rattle.yaml_value.specs.View.{entry_pairs}
use Rattle.yaml_value.proofs.Indexed.{distinct-without_place}
use Rattle.yaml_value.proofs.Views.{entry_pairs-remove, value_in_place-at}
use Rattle.yaml_value.proofs.mapping.take_out.Goals as goal

pub returns-clause-after : goal.returns-clause-after
returns-clause-after c =
    c.index_all.ensures.pairs
    ∙ (ap entry_pairs c.removed-entry.ensures.items ∙ entry_pairs-remove c.args.entries.now.items c.args.i)

pub returns-clause-answer : goal.returns-clause-answer
returns-clause-answer c =
    value_in_place-at c.args.entries.now.items c.args.i c.removed-entry.result c.requires c.removed-entry.ensures.value

pub returns-clause-sound : goal.returns-clause-sound
returns-clause-sound c = λ sound.
    let after = c.index_all.ensures.pairs
    ∙ (ap entry_pairs c.removed-entry.ensures.items ∙ entry_pairs-remove c.args.entries.now.items c.args.i) in (
      c.index_all.ensures.indexed,
      ap keys_distinct after ∙ distinct-without_place c.args.i (entry_pairs c.args.entries.now.items) sound.1,
    )

-- The value in the place of the key is the value at the key.
use Rattle.std.proofs.Common.{ap, ◌∙◌}
use Rattle.std.specs.Prelude.{option_and_then}
use Rattle.yaml_value.specs.Find.{value_in_place}
use Rattle.yaml_value.specs.PlainEqual.{plain_eq}
use Rattle.yaml_value.specs.PlainValue.{text}
use Rattle.yaml_value.specs.View.{entry_pairs}
use Rattle.yaml_value.proofs.Views.{value_where-place}
use Rattle.yaml_value.proofs.mapping.value_of_text.Goals as goal

pub returns : goal.returns
returns c =
    let ps = entry_pairs c.args.entries.now in
    c.value_in.ensures
    ∙ (ap (option_and_then (λ i. value_in_place i ps)) c.place_of_text.ensures.place
    ∙ value_where-place (plain_eq (text c.args.key.now)) ps)

-- The value in the place of the key is the value at the key.
use Rattle.std.proofs.Common.{◌≡◌, ap, sym, Some, ◌∙◌}
use Rattle.std.specs.Prelude.{option_and_then}
use Rattle.yaml_value.specs.Find.{value_at, value_in_place}
use Rattle.yaml_value.specs.PlainEqual.{plain_eq}
use Rattle.yaml_value.specs.PlainValue.{text}
use Rattle.yaml_value.specs.View.{plain, plain_pairs}
use Rattle.yaml_value.proofs.Views.{told, value_where-place}
use Rattle.yaml_value.proofs.mapping.Mapping.get_mut.Goals as goal

pub returns-in-Some : goal.returns-in-Some
returns-in-Some c =
    let k = text c.args.key.now in
    let ps = plain_pairs c.args.self.now in
    let v = plain c.value_mut.result.now in
    let value : Some v ≡ value_at k ps = sym c.value_mut.ensures
    ∙ (ap (option_and_then (λ i. value_in_place i ps)) c.in-Some.ensures.place
    ∙ value_where-place (plain_eq k) ps) in
    (told k ps (λ w. w) (Some v) value, value)

pub returns-in-None : goal.returns-in-None
returns-in-None c =
    let k = text c.args.key.now in
    let ps = plain_pairs c.args.self.now in
    (tt, ap (option_and_then (λ i. value_in_place i ps)) c.in-None.ensures.place ∙ value_where-place (plain_eq k) ps)

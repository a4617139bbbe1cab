-- The value of the entry there, where the place is within.
use Rattle.std.proofs.Common.{sym, ap, ◌∙◌, Some}
use Rattle.std.specs.Prelude.{option_and_then}
use Rattle.yaml_value.specs.Find.{value_in_place}
use Rattle.yaml_value.specs.View.{entry_pairs}
use Rattle.yaml_value.proofs.Views.{value_in_place-at, value_in_place-beyond}
use Rattle.yaml_value.proofs.mapping.value_in.Goals as goal

pub returns-then-i-entries : goal.returns-then-i-entries
returns-then-i-entries c =
    let es = c.args.entries.now in
    ap Some c.value.ensures
    ∙ (sym (value_in_place-at es c.in-Some.i c.index-entries-i.result c.if-i-entries.true c.index-entries-i.is)
    ∙ ap (option_and_then (λ i. value_in_place i (entry_pairs es))) (sym c.in-Some.is))

pub returns-else-i-entries : goal.returns-else-i-entries
returns-else-i-entries c =
    let es = c.args.entries.now in
    sym (value_in_place-beyond es c.in-Some.i c.if-i-entries.false)
    ∙ ap (option_and_then (λ i. value_in_place i (entry_pairs es))) (sym c.in-Some.is)

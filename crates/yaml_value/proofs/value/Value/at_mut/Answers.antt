-- The value there, where the place is within.
use Rattle.std.proofs.Common.{◌<◌, ◌≤◌, ap, arith, length, sym, ◌∙◌}
use Rattle.std.specs.Prelude.{option_and_then}
use Rattle.yaml_value.specs.Find.{item_in_place}
use Rattle.yaml_value.proofs.Views.{item_in_place-at, item_in_place-beyond}
use Rattle.yaml_value.proofs.value.Value.at_mut.Goals as goal

pub returns-then-place-len : goal.returns-then-place-len
returns-then-place-len c =
    let vs = c.in_ok-items.items.now in
    let within : c.args.place < length vs.items = omega (arith, c.if-place-len.true, c.len.ensures, vs.ok.0) in
    sym (ap (λ o. option_and_then (item_in_place c.args.place) o) (sym c.in_ok-items.ensures.value)
    ∙ item_in_place-at vs.items c.args.place c.index_mut.result.now within c.index_mut.ensures.value)

pub returns-else-place-len : goal.returns-else-place-len
returns-else-place-len c =
    let vs = c.in_ok-items.items.now in
    let beyond : length vs.items ≤ c.args.place = omega (arith, c.if-place-len.false, c.len.ensures, vs.ok.0) in
    sym (ap (λ o. option_and_then (item_in_place c.args.place) o) (sym c.in_ok-items.ensures.value)
    ∙ item_in_place-beyond vs.items c.args.place beyond)

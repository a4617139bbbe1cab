-- The entry there is taken out, where the place is within.
use Rattle.std.proofs.Common.{ap, arith, sym, ◌∙◌}
use Rattle.std.specs.Prelude.{option_and_then}
use Rattle.yaml_value.specs.Find.{value_in_place, without_found}
use Rattle.yaml_value.specs.View.{entry_pairs}
use Rattle.yaml_value.proofs.Views.{value_in_place-beyond, without_place-beyond}
use Rattle.yaml_value.proofs.mapping.taken_from.Goals as goal

pub returns-then-i-len-clause-after : goal.returns-then-i-len-clause-after
returns-then-i-len-clause-after c =
    let ps = entry_pairs c.args.entries.now.items in
    c.take_out.ensures.after ∙ ap (λ place. without_found place ps) (sym c.in-Some.is)

pub returns-then-i-len-clause-answer : goal.returns-then-i-len-clause-answer
returns-then-i-len-clause-answer c =
    let ps = entry_pairs c.args.entries.now.items in
    sym c.take_out.ensures.answer ∙ ap (option_and_then (λ i. value_in_place i ps)) (sym c.in-Some.is)

pub returns-else-i-len-clause-after : goal.returns-else-i-len-clause-after
returns-else-i-len-clause-after c =
    let es = c.args.entries.now.items in
    let i = c.in-Some.i in
    sym (without_place-beyond es i (omega (arith, c.if-i-len.false, c.len.ensures, c.args.entries.now.ok.0)))
    ∙ ap (λ place. without_found place (entry_pairs es)) (sym c.in-Some.is)

pub returns-else-i-len-clause-answer : goal.returns-else-i-len-clause-answer
returns-else-i-len-clause-answer c =
    let es = c.args.entries.now.items in
    let i = c.in-Some.i in
    sym (value_in_place-beyond es i (omega (arith, c.if-i-len.false, c.len.ensures, c.args.entries.now.ok.0)))
    ∙ ap (option_and_then (λ n. value_in_place n (entry_pairs es))) (sym c.in-Some.is)

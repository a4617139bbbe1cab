-- What is added first, and what is left to add.
use Rattle.std.proofs.Common.{◌≡◌, ap, false, rules, Some, ◌∙◌}
use Rattle.yaml_base.specs.Answer.{is_memory}
use Rattle.yaml_value.specs.Merge.{then_left, with_elements}
use Rattle.yaml_value.specs.View.{plain_items, plain_pairs}
use Rattle.yaml_value.proofs.value.merge.add_elements.Goals as goal

pub loop-element-preserved : goal.loop-element-preserved
loop-element-preserved c =
    let now = plain_pairs c.loop-element.mapping in
    let rest = plain_items c.next.new.self.rest.items in
    c.loop-element.invariant
    ∙ (ap (λ vs. with_elements now (plain_items vs)) c.in-Some.ensures.steps.0
    ∙ ap (λ left. then_left left (λ qs. with_elements qs rest)) c.in_ok-add_element.ensures)

pub returns-in_err-add_element : goal.returns-in_err-add_element
returns-in_err-add_element c =
    let now = plain_pairs c.loop-element.mapping in
    let rest = plain_items c.next.new.self.rest.items in
    let fault = c.in_err-add_element.field-0.0 in
    let told : is_memory fault ≡ false → with_elements (plain_pairs c.args.mapping.now) (plain_items
    c.args.elements.items)
    ≡ (plain_pairs c.add_element.new.mapping, Some fault) = λ e.
    c.loop-element.invariant
    ∙ (ap (λ vs. with_elements now (plain_items vs)) c.in-Some.ensures.steps.0
    ∙ ap (λ left. then_left left (λ qs. with_elements qs rest)) (c.in_err-add_element.ensures e)) in
    search (rules, told)

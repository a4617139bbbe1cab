-- What is left to add gives what is left.
use Rattle.std.proofs.Common.{◌≡◌}
use Rattle.yaml_value.specs.Merge.{with_elements}
use Rattle.yaml_value.specs.View.{plain_items, plain_pairs}
use Rattle.yaml_value.proofs.value.merge.add_elements.Given as goal

abbrev pub invariant-loop-element : goal.invariant-loop-element
invariant-loop-element l =
    let all = with_elements (plain_pairs l.initial.mapping) (plain_items l.fn.elements.items) in
    all ≡ with_elements (plain_pairs l.mapping) (plain_items l.element-iterator.rest.items)

-- What is left to add gives what is left.
use Rattle.std.proofs.Common.{◌≡◌}
use Rattle.yaml_value.specs.Merge.{with_missing}
use Rattle.yaml_value.specs.View.{entry_pairs, plain_pairs}
use Rattle.yaml_value.proofs.value.merge.add_missing.Given as goal

abbrev pub invariant-loop-entry : goal.invariant-loop-entry
invariant-loop-entry l =
    let all = with_missing (plain_pairs l.initial.mapping) (entry_pairs l.fn.more.items) in
    all ≡ with_missing (plain_pairs l.mapping) (entry_pairs l.entry-iterator.rest.items)

-- No key before is this one.
use Rattle.std.proofs.Common.{◌≡◌, length, pos}
use Rattle.yaml_query.proofs.Rests.{pairs_behind}
use Rattle.yaml_value.specs.Find.{value_at}
use Rattle.yaml_value.specs.PlainValue.{integer}
use Rattle.yaml_value.specs.View.{plain_pairs}
use Rattle.yaml_query.proofs.lookup.at_number.Given as goal

abbrev pub invariant-loop-entry : goal.invariant-loop-entry
invariant-loop-entry l =
    value_at (integer (pos l.n)) (plain_pairs l.mapping)
    ≡ value_at (integer (pos l.n)) (pairs_behind (length l.yielded) (plain_pairs l.mapping))

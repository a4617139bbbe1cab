-- The numbers that are bounded, and those that will be, are what all are once bounded.
use Rattle.std.specs.Prelude.{◌≡◌, ◌-◌, ◌+◌}
use Rattle.yaml_load.proofs.Words.{[], length, take, bounded_from}
use Rattle.yaml_load.proofs.loader.ends.Ends.cut.Given as goal

abbrev pub invariant-numbers : goal.invariant-numbers
invariant-numbers l =
    let now = l.self-inside in
    record {
      unended : now.unended.items ≡ [];
      bounded :
          bounded_from l.place l.at now.numbers.items
          ≡ bounded_from l.place l.from (take (l.from + l.place) l.fn.self.numbers);
    }

abbrev pub decreases-numbers : goal.decreases-numbers
decreases-numbers l = length l.self-inside.numbers.items - l.at

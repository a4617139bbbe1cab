-- Where nothing comes later, the numbers stay those that all open collections leave once they are ended.
use Rattle.std.specs.Prelude.{◌≡◌, ◌<◌}
use Rattle.yaml_load.proofs.Words.{[], All, length, reverse, numbers_ended}
use Rattle.yaml_load.proofs.loader.ends.Ends.finish.Given as goal

abbrev pub invariant-unended : goal.invariant-unended
invariant-unended l =
    let now = l.self-inside in
    record {
      within : All (λ s. s < length now.numbers.items) now.unended.items;
      count : length now.numbers.items ≡ length l.fn.self.numbers;
      all :
          numbers_ended (reverse now.unended.items) 0 l.size [] now.numbers.items
          ≡ numbers_ended (reverse l.fn.self.unended) 0 l.size [] l.fn.self.numbers;
    }

abbrev pub decreases-unended : goal.decreases-unended
decreases-unended l = length l.self-inside.unended.items

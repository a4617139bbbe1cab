-- Sorted names are distinct where neighbours are.
use Rattle.std.proofs.Common.{arith, refl}
use Rattle.std.proofs.lemmas.Bool.{false≢true}
use Rattle.yaml_shape.proofs.DistinctLaws.{distinct_by_sorting, same_neighbours}
use Rattle.yaml_shape.proofs.distinct_names.are_distinct.Goals as goal

pub returns-then-eq : goal.returns-then-eq
returns-then-eq c = (
  λ e. absurd (false≢true e),
  λ apart. absurd (same_neighbours c.args.names.items c.sort_unstable.new.self.items c.loop-i.i c.index.result.now
      c.index-in-loop-i.result.now
      c.sort_unstable.ensures.permutation (omega arith) (omega arith) c.index.ensures c.index-in-loop-i.ensures
      (cc) apart),
)

pub returns : goal.returns
returns c = (
  λ _. distinct_by_sorting c.args.names.items c.sort_unstable.new.self.items c.loop-i.i
      c.sort_unstable.ensures.permutation c.sort_unstable.ensures.sorted (omega arith) c.loop-i.invariant,
  λ _. refl,
)

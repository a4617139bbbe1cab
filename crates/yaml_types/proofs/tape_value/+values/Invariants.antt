-- How the walk ends, and what its loops keep.
use Rattle.std.proofs.Common.{◌+◌, ◌*◌}
use Rattle.yaml_tree.specs.Valid.{pairs_of}
use Rattle.yaml_types.specs.AnyNodes.{AnyShaped, IsValue, PairsBefore}
use Rattle.yaml_types.specs.NodeMeans.{ItemsFront}
use Rattle.yaml_types.proofs.tape_value.+values.Given as goal

abbrev pub decreases-value_at : goal.decreases-value_at
decreases-value_at l = 2 * l.depth

abbrev pub decreases-values_at : goal.decreases-values_at
decreases-values_at l = 2 * l.depth + 1

abbrev pub decreases-pairs_at : goal.decreases-pairs_at
decreases-pairs_at l = 2 * l.depth + 1

-- what is read from here on goes on what was read
abbrev pub invariant-values_at-items : goal.invariant-values_at-items
invariant-values_at-items l = ItemsFront AnyShaped IsValue l.tape l.fn.place l.place l.depth l.items.items

abbrev pub invariant-pairs_at-pairs : goal.invariant-pairs_at-pairs
invariant-pairs_at-pairs l = PairsBefore l.tape l.fn.place l.place l.depth (pairs_of l.pairs)

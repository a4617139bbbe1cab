-- The pairs behind ascend, and with what those in front make they are what all make.
use Rattle.std.specs.Prelude.{length}
use Rattle.std.specs.List.Sorted.{IsStrictlySortedBy}
use Rattle.std.specs.Map.{keys_of}
use Rattle.yaml_types.proofs.PairFilling.{AreFront}
use Rattle.yaml_types.proofs.impls.map.map_of_pairs.Given as goal

abbrev pub invariant-loop-key : goal.invariant-loop-key
invariant-loop-key g l =
    IsStrictlySortedBy g.K.Ord.cmp (keys_of l.later.entries)
    × AreFront g.K.Ord.cmp l.fn.pairs.items l.front.items l.later.entries

abbrev pub decreases-loop-key : goal.decreases-loop-key
decreases-loop-key g l = length l.front.items

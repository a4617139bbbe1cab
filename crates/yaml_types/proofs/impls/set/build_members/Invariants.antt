-- The elements behind ascend, and with what the items in front make they are what all make.
use Rattle.std.specs.Prelude.{length}
use Rattle.std.specs.List.Sorted.{IsStrictlySortedBy}
use Rattle.yaml_types.proofs.SetFilling.{IsFront}
use Rattle.yaml_types.proofs.impls.set.build_members.Given as goal

abbrev pub invariant-loop-item : goal.invariant-loop-item
invariant-loop-item g l =
    IsStrictlySortedBy g.T.Ord.cmp l.behind.keys
    × IsFront g.T.Deserialize.start g.T.Ord.cmp g.T.Deserialize.built g.T.Deserialize.refused l.fn.items.items
    l.front.items l.behind.keys

abbrev pub decreases-loop-item : goal.decreases-loop-item
decreases-loop-item g l = length l.front.items

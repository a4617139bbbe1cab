-- The members behind ascend, and with what those in front make they are what all make.
use Rattle.std.specs.Prelude.{length}
use Rattle.std.specs.List.Sorted.{IsStrictlySortedBy}
use Rattle.yaml_types.proofs.MemberFilling.{AreFront}
use Rattle.yaml_types.proofs.impls.set.set_of_members.Given as goal

abbrev pub invariant-loop-member : goal.invariant-loop-member
invariant-loop-member g l =
    IsStrictlySortedBy g.T.Ord.cmp l.later.keys
    × AreFront g.T.Ord.cmp l.fn.members.items l.front.items l.later.keys

abbrev pub decreases-loop-member : goal.decreases-loop-member
decreases-loop-member g l = length l.front.items

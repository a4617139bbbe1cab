-- What the members that are left make of the set so far is what all make.
use Rattle.std.specs.Prelude.{◌≡◌, []}
use Rattle.yaml_types.specs.Sets.{inserted_all}
use Rattle.yaml_types.proofs.impls.set.set_in_turn.Given as goal

abbrev pub invariant-loop-member : goal.invariant-loop-member
invariant-loop-member g l =
    inserted_all g.T.Ord.cmp l.set.keys l.member-iterator.rest.items
    ≡ inserted_all g.T.Ord.cmp [] l.fn.members.items

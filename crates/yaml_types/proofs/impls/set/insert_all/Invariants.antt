-- What the others that are left make of the set so far is what all make.
use Rattle.std.specs.Prelude.{◌≡◌}
use Rattle.yaml_types.specs.Sets.{inserted_all}
use Rattle.yaml_types.proofs.impls.set.insert_all.Given as goal

abbrev pub invariant-loop-member : goal.invariant-loop-member
invariant-loop-member g l =
    inserted_all g.T.Ord.cmp l.set.keys l.member-iterator
    ≡ inserted_all g.T.Ord.cmp l.initial.set.keys l.fn.others.keys

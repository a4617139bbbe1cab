-- What the others that are left make of the map so far is what all make.
use Rattle.std.specs.Prelude.{◌≡◌}
use Rattle.yaml_types.specs.Inserted.{inserted_pairs}
use Rattle.yaml_types.proofs.impls.map.insert_all.Given as goal

abbrev pub invariant-loop-key : goal.invariant-loop-key
invariant-loop-key g l =
    inserted_pairs g.K.Ord.cmp l.map.entries l.key-iterator
    ≡ inserted_pairs g.K.Ord.cmp l.initial.map.entries l.fn.others.entries

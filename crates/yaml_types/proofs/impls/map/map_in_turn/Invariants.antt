-- What the pairs that are left make of the map so far is what all make.
use Rattle.std.specs.Prelude.{◌≡◌, []}
use Rattle.yaml_types.specs.Inserted.{inserted_pairs}
use Rattle.yaml_types.proofs.impls.map.map_in_turn.Given as goal

abbrev pub invariant-loop-key : goal.invariant-loop-key
invariant-loop-key g l =
    inserted_pairs g.K.Ord.cmp l.map.entries l.key-iterator.rest.items
    ≡ inserted_pairs g.K.Ord.cmp [] l.fn.pairs.items

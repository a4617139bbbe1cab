-- What the items that are left make of the set so far is what all make.
use Rattle.yaml_types.proofs.SetFilling.{IsFilling}
use Rattle.yaml_types.proofs.impls.set.build_in_turn.Given as goal

abbrev pub invariant-loop-item : goal.invariant-loop-item
invariant-loop-item g l =
    IsFilling g.T.Deserialize.start g.T.Ord.cmp g.T.Deserialize.built g.T.Deserialize.refused l.fn.items.items
    l.set.keys l.item-iterator.rest.items

-- What the entries that are left make of the map so far is what all make.
use Rattle.yaml_types.proofs.MapFilling.{IsFilling}
use Rattle.yaml_types.proofs.impls.map.build_in_turn.Given as goal

abbrev pub invariant-loop-pair : goal.invariant-loop-pair
invariant-loop-pair g l =
    IsFilling g.K.Deserialize.start g.V.Deserialize.start g.K.Ord.cmp g.K.Deserialize.built g.V.Deserialize.built
    g.K.Deserialize.refused g.V.Deserialize.refused l.fn.entries.items l.map.entries l.pair-iterator.rest.items

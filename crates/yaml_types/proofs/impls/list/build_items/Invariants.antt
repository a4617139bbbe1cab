-- The values so far are those of the items so far.
use Rattle.yaml_shape.specs.DataView.{items_view}
use Rattle.yaml_types.proofs.BuildLaws.{IsBuilding}
use Rattle.yaml_types.proofs.impls.list.build_items.Given as goal

abbrev pub invariant-loop-item : goal.invariant-loop-item
invariant-loop-item g l =
    IsBuilding g.T.Deserialize.start g.T.Deserialize.built g.T.Deserialize.refused (items_view l.fn.items.items)
    l.values.items (items_view l.item-iterator.rest.items)

-- Each item is built in its turn.
use Rattle.std.proofs.Common.{subst, sym, arith}
use Rattle.yaml_shape.specs.DataView.{data_of, items_view}
use Rattle.yaml_shape.proofs.PartLaws.{empty}
use Rattle.yaml_types.proofs.BuildLaws.{IsBuilding, building_more, building_all}
use Rattle.yaml_types.proofs.impls.list.build_items.Goals as goal

pub loop-item-preserved : goal.loop-item-preserved
loop-item-preserved g c =
    subst (λ values. IsBuilding g.T.Deserialize.start g.T.Deserialize.built g.T.Deserialize.refused
    (items_view c.args.items.items) values (items_view c.next.new.self.rest.items))
    (sym c.in_ok-push.ensures.items)
    (building_more g.T.Deserialize.start g.T.Deserialize.built g.T.Deserialize.refused (items_view c.args.items.items)
    c.loop-item.values.items (data_of c.in-Some.item) (items_view c.next.new.self.rest.items) c.in_ok-build.field-0
    (subst (λ rest. IsBuilding g.T.Deserialize.start g.T.Deserialize.built g.T.Deserialize.refused
    (items_view c.args.items.items) c.loop-item.values.items (items_view rest)) c.in-Some.ensures.steps.0
    c.loop-item.invariant)
    c.in_ok-build.ensures.ok)

pub returns-clause-ok : goal.returns-clause-ok
returns-clause-ok g c =
    building_all g.T.Deserialize.start g.T.Deserialize.built g.T.Deserialize.refused (items_view c.args.items.items)
    c.loop-item.values.items
    (subst (λ rest. IsBuilding g.T.Deserialize.start g.T.Deserialize.built g.T.Deserialize.refused
    (items_view c.args.items.items) c.loop-item.values.items (items_view rest))
    (empty c.loop-item.item-iterator.rest.items (omega (
      arith,
      c.loop-item.item-iterator.rest.ok.0,
      c.in-None.ensures.steps.0,
    )))
    c.loop-item.invariant)

-- The data of the elements, one behind the other.
use Rattle.std.proofs.Common.{◌∙◌, ap}
use Rattle.yaml_shape.specs.PlainData.{tuple_data, no_items, item}
use Rattle.yaml_shape.specs.DataView.{items_view}
use Rattle.yaml_types.specs.Rows.{items_then}
use Rattle.yaml_types.proofs.FoundLaws.{data_of-Tuple}
use Rattle.yaml_types.proofs.impls.tuples.six.Tuple6ToParts.parts_to_data.Goals as goal

pub returns-clause-ok : goal.returns-clause-ok
returns-clause-ok g c =
    data_of-Tuple c.in_ok-items-7.items
    ∙ ap tuple_data
    (c.in_ok-items-7.ensures.ok ∙ ap (λ l. items_then l (item (g.F.Serialize.written c.args.self.now.5) no_items))
    (c.in_ok-items-6.ensures.ok ∙ ap (λ l. items_then l (item (g.E.Serialize.written c.args.self.now.4) no_items))
    (c.in_ok-items-5.ensures.ok ∙ ap (λ l. items_then l (item (g.D.Serialize.written c.args.self.now.3) no_items))
    (c.in_ok-items-4.ensures.ok ∙ ap (λ l. items_then l (item (g.C.Serialize.written c.args.self.now.2) no_items))
    (c.in_ok-items-3.ensures.ok ∙ ap (λ l. items_then l (item (g.B.Serialize.written c.args.self.now.1) no_items))
    (c.in_ok-items-2.ensures.ok ∙ ap (λ l. items_then l (item (g.A.Serialize.written c.args.self.now.0) no_items))
    (ap items_view c.in_ok-items.ensures.items)))))))

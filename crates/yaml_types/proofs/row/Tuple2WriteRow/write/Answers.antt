-- The first value's data is put behind the items, and the others behind it.
use Rattle.std.proofs.Common.{◌∙◌, ap}
use Rattle.yaml_shape.specs.PlainData.{item}
use Rattle.yaml_shape.specs.DataView.{items_view}
use Rattle.yaml_types.specs.Rows.{items_then}
use Rattle.yaml_types.proofs.ItemsThen.{then_pushed}
use Rattle.yaml_types.proofs.row.Tuple2WriteRow.write.Goals as goal

pub returns-in-Ok-clause-ok : goal.returns-in-Ok-clause-ok
returns-in-Ok-clause-ok g c =
    let others = g.R.WriteRow.written c.args.self.now.1 in
    c.in-Ok.ensures.ok
    ∙ (ap (λ l. items_then (items_view l) others) c.in_ok-push.ensures.items
    ∙ (then_pushed c.args.before.items c.in_ok-to_data.field-0 others
    ∙ ap (λ d. items_then (items_view c.args.before.items) (item d others)) c.in_ok-to_data.ensures.ok))

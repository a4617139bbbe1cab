-- The value's data is put behind the items.
use Rattle.std.proofs.Common.{◌∙◌, ap}
use Rattle.yaml_shape.specs.PlainData.{no_items, item}
use Rattle.yaml_shape.specs.DataView.{items_view}
use Rattle.yaml_types.specs.Rows.{items_then}
use Rattle.yaml_types.proofs.ItemsThen.{then_nothing, then_pushed}
use Rattle.yaml_types.proofs.items.with_data.Goals as goal

pub returns-clause-ok : goal.returns-clause-ok
returns-clause-ok g c =
    then_nothing (items_view c.push.new.self.items)
    ∙ (ap (λ l. items_then (items_view l) no_items) c.in_ok-push.ensures.items
    ∙ (then_pushed c.args.before.items c.in_ok-to_data.field-0 no_items
    ∙ ap (λ d. items_then (items_view c.args.before.items) (item d no_items)) c.in_ok-to_data.ensures.ok))

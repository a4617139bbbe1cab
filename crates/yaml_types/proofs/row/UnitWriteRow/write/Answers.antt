-- Nothing is put behind the items.
use Rattle.yaml_shape.specs.DataView.{items_view}
use Rattle.yaml_types.proofs.ItemsThen.{then_nothing}
use Rattle.yaml_types.proofs.row.UnitWriteRow.write.Goals as goal

pub returns-clause-ok : goal.returns-clause-ok
returns-clause-ok c = then_nothing (items_view c.args.before.items)

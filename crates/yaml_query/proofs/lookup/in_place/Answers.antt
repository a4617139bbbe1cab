-- The value there, where the place is within.
use Rattle.std.proofs.Common.{sym}
use Rattle.yaml_value.proofs.Views.{item_in_place-at, item_in_place-beyond}
use Rattle.yaml_query.proofs.lookup.in_place.Goals as goal

pub returns-then-place-items : goal.returns-then-place-items
returns-then-place-items c =
    sym (item_in_place-at c.args.items.now c.args.place c.index-items-place.result c.if-place-items.true
    c.index-items-place.is)

pub returns-else-place-items : goal.returns-else-place-items
returns-else-place-items c = sym (item_in_place-beyond c.args.items.now c.args.place c.if-place-items.false)

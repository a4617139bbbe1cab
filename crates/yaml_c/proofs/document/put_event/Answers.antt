-- The texts of the row were added, and the row.
use Rattle.yaml_c.proofs.ShowingLaws.{adds_behind}
use Rattle.yaml_c.proofs.document.put_event.Goals as goal

pub returns : goal.returns
returns c = adds_behind c.args.source.now c.event_row-row.result _ c.event_row-row.ensures.grows
    c.event_row-row.ensures.rows c.event_row-row.ensures.row c.put_row.ensures.put c.put_row.ensures.bytes

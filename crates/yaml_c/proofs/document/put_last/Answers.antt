-- The text of the fault was added, if there is one, and the row.
use Rattle.yaml_c.proofs.ShowingLaws.{adds_behind}
use Rattle.yaml_c.proofs.document.put_last.Goals as goal

pub returns : goal.returns
returns c = λ source. adds_behind source c.in_ok-last.last _ c.in_ok-last.ensures.grows c.in_ok-last.ensures.rows
    (c.in_ok-last.ensures.row source) c.put_row.ensures.put c.put_row.ensures.bytes

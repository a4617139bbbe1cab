-- One row was added.
use Rattle.std.proofs.Common.{refl, ℕ, List}
use Rattle.yaml_c.proofs.RoomLaws.{grows_none}
use Rattle.yaml_c.proofs.ShowingLaws.{adds_behind}
use Rattle.yaml_c.proofs.document.put_begin.Goals as goal
use Rattle.yaml_c.specs.Links.{document_reach}
use Rattle.yaml_c.specs.Rows.{begins}

pub returns : goal.returns
returns c = λ source texts. adds_behind source c.document_row-row.result
    (begins (document_reach c.args.tally.now.rows c.args.events)) (grows_none texts c.args.tally.now.bytes) refl
    (λ room (more : List ℕ). rw (c.document_row-row.ensures.kind, c.document_row-row.ensures.reach) refl)
    c.put_row.ensures.put c.put_row.ensures.bytes

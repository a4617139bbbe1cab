-- The tag stands in front of the text.
use Rattle.std.proofs.Common.{◌≡◌, ℕ, List, None, Some}
use Rattle.std.specs.Prelude.{if◌then◌else◌, ◌==◌}
use Rattle.yaml_c.proofs.RoomLaws.{grows_on, holds_on}
use Rattle.yaml_c.proofs.event.scalar_row.Goals as goal
use Rattle.yaml_c.specs.Rows.{part}

pub returns-clause-grows : goal.returns-clause-grows
returns-clause-grows c = grows_on c.put_tag-tag.ensures.grows c.put_scalar_text-text.ensures.grows

pub returns-clause-tag : goal.returns-clause-tag
returns-clause-tag c =
    let t = c.put_tag-tag.result in
    holds_on (λ (bytes : List ℕ). (if t.kind == 0 then None else Some (part bytes t.part.at t.part.len))
    ≡ c.args.scalar.now.tag) c.put_scalar_text-text.ensures.grows c.put_tag-tag.ensures.put

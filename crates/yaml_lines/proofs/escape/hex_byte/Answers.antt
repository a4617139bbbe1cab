-- The two digits are those of an escape by number.
use Rattle.yaml_lines.proofs.EscapeLaws.{begins_number}
use Rattle.yaml_lines.proofs.escape.hex_byte.Goals as goal

pub returns : goal.returns
returns c =
    let high = c.in_ok-high-2.ensures.value in
    let low = c.in_ok-low-2.ensures.value in
    rw (high.1, low.1)
    (begins_number _ _ _ _ _ c.in_ok-high.ensures.cases.0 c.in_ok-low.ensures.cases.0 high.0 low.0)

-- Where there is no such byte, or no number before it, the text begins with no number.
use Rattle.yaml_lines.proofs.PlaceLaws.{no_byte, no_number}
use Rattle.yaml_lines.proofs.line.parts.number_before.Goals as goal

pub returns-in_err-digits : goal.returns-in_err-digits
returns-in_err-digits c = rw c.from_residual.ensures (λ n rest. no_byte _ _ n rest c.in_err-digits.ensures)

pub returns-in_err-number : goal.returns-in_err-number
returns-in_err-number c =
    rw c.from_residual-in_err-number.ensures
    (λ n rest. no_number _ _ _ _ n rest c.requires c.in_ok-digits.ensures.0 c.in_ok-digits.ensures.1
    c.in_err-number.ensures)

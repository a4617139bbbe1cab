-- What isn't UTF-8 is no number.
use Rattle.yaml_lines.proofs.PlaceLaws.{number-IsUtf8}
use Rattle.yaml_lines.proofs.line.parts.number.Goals as goal

pub returns-in-Err : goal.returns-in-Err
returns-in-Err c = λ n is. c.in-Err.ensures.cases.0 (number-IsUtf8 _ n is)

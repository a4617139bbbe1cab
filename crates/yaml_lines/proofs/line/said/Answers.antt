-- What is neither a fault nor an event says nothing.
use Rattle.yaml_lines.proofs.Exits.{passed}
use Rattle.yaml_lines.proofs.LineLaws.{no_fault}
use Rattle.yaml_lines.proofs.line.said.Goals as goal

pub returns-in_err-parse-in-Some : goal.returns-in_err-parse-in-Some
returns-in_err-parse-in-Some c =
    passed _ _ _ c.from_residual.ensures.1 (λ bad. no_fault _ _ _ c.in-Some.ensures
    (c.in_err-parse-in-Some.ensures.says bad))

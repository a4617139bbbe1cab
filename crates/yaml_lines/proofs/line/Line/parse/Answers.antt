-- A line says what stands behind its mark, and nothing where it has none.
use Rattle.std.proofs.lemmas.Result.{MatchResult-weaker}
use Rattle.yaml_lines.proofs.LineLaws.{no_line_behind}
use Rattle.yaml_lines.proofs.line.Line.parse.Goals as goal

pub returns-in_default : goal.returns-in_default
returns-in_default c = λ bad said h. c.in_default.ensures h.mark h.text h.is_marked

pub returns : goal.returns
returns c = MatchResult-weaker c.said.result c.said.ensures
    (λ line says. record { mark = _; text = _; is_marked = c.in-Some.ensures; is_said = says })
    (λ fault none bad. no_line_behind _ _ _ c.in-Some.ensures (none bad))

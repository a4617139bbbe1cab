-- A line is not empty.
use Rattle.std.proofs.Common.{arith, sym, ◌∙◌}
use Rattle.yaml_direct.proofs.PlainSays.{line_some}
use Rattle.yaml_direct.proofs.reader.Reader.plain_line.Goals as goal

pub returns-then-stop-next-clause-missed : goal.returns-then-stop-next-clause-missed
returns-then-stop-next-clause-missed c =
    let end = c.plain_end-stop.ensures in
    let some = line_some c.args.self.now.text.now c.args.flow c.args.next c.plain_end-stop.result end.line end.forward
    (sym c.stops_plain.ensures ∙ c.if-stops_plain.false) (λ e. c.if-at-eq32.false (c.at.ensures.value ∙ e)) in
    λ h none fed. absurd (omega (arith, some, c.if-stop-next.true))

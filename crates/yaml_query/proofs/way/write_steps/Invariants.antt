-- What was written so far is the steps so far.
use Rattle.std.proofs.Common.{take, true}
use Rattle.std.specs.Fmt.{HasWritten, IsPlainFormatter}
use Rattle.yaml_query.specs.Steps.{plain_steps}
use Rattle.yaml_query.specs.StepsText.{steps_from}
use Rattle.yaml_query.proofs.way.write_steps.Given as goal

abbrev pub invariant-loop-i : goal.invariant-loop-i
invariant-loop-i g l = IsPlainFormatter l.fn.f
    → HasWritten g.W.Write.write_str_gives l.fn.f (steps_from true (plain_steps (take l.i l.steps))) l.f

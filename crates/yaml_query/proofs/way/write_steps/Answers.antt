-- A step is written behind those so far.
use Rattle.std.proofs.Common.{rules, sym}
use Rattle.std.proofs.Output.{has_written_append, has_written_of_eq}
use Rattle.yaml_query.proofs.StepLaws.{steps_more}
use Rattle.yaml_query.proofs.way.write_steps.Goals as goal

pub loop-i-preserved : goal.loop-i-preserved
loop-i-preserved g c = λ plain.
    has_written_of_eq g.W.Write.write_str_gives _ _ _ _
    (sym (steps_more c.args.steps.now c.loop-i.i c.index-steps-i.result c.loop-i-test.true c.index-steps-i.is))
    (has_written_append _ _ _ _ _ _ (c.loop-i.invariant plain) (search rules))

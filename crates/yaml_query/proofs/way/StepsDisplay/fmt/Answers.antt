-- Where steps are there, the text is theirs.
use Rattle.std.proofs.Common.{sym, ◌∙◌}
use Rattle.std.proofs.Output.{has_written_of_eq}
use Rattle.yaml_query.proofs.StepLaws.{some_steps}
use Rattle.yaml_query.proofs.way.StepsDisplay.fmt.Goals as goal

pub returns-clause-writes : goal.returns-clause-writes
returns-clause-writes g c = λ plain ok.
    has_written_of_eq g.W.Write.write_str_gives _ _ _ _
    (some_steps c.args.self.now.0.now (sym c.is_empty.ensures ∙ c.if-is_empty.false)) (c.write_steps.ensures plain ok)

-- A text that is not allowed has other characters than the grammar's.
use Rattle.yaml_checked.proofs.AllowedLaws.{none_where_refused}
use Rattle.yaml_checked.proofs.allowed.parse_allowed.Goals as goal

pub returns-then-not-branch-clause-left : goal.returns-then-not-branch-clause-left
returns-then-not-branch-clause-left c = λ _.
    none_where_refused c.args.text.now (c.in_ok-is_allowed.ensures.left c.if-not-branch.true)

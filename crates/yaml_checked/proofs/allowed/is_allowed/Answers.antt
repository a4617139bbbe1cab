-- A text that the reader does not take is not allowed.
use Rattle.std.proofs.Common.{subst}
use Rattle.yaml_checked.proofs.AllowedLaws.{never_allowed}
use Rattle.yaml_checked.proofs.allowed.is_allowed.Goals as goal
use Rattle.yaml_scan.specs.Scanning.{IsScanned}

pub returns-in-Unread-clause-left : goal.returns-in-Unread-clause-left
returns-in-Unread-clause-left c = λ _.
    never_allowed c.args.text.now c.in-Unread.field-0.kind c.in-Unread.field-0.offset
    (subst (IsScanned c.args.text.now) c.in-Unread.is c.in_ok-scan.ensures)

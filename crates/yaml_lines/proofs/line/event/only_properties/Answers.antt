-- Where something follows the anchor and the tag, they are not all.
use Rattle.std.proofs.Common.{[]}
use Rattle.yaml_lines.proofs.EscapeLaws.{test_some}
use Rattle.yaml_lines.proofs.EventLaws.{not_alone}
use Rattle.yaml_lines.proofs.Exits.{passed}
use Rattle.yaml_lines.proofs.line.event.only_properties.Goals as goal

pub returns-in_err-anchor : goal.returns-in_err-anchor
returns-in_err-anchor c =
    passed _ _ _ c.from_residual.ensures.1 (λ bad found. c.in_err-anchor.ensures bad (found.0, found.1, []))

pub returns-else-is_empty : goal.returns-else-is_empty
returns-else-is_empty c = λ bad found.
    not_alone _ _ _ _ c.in_ok-anchor.ensures (test_some _ _ c.is_empty.ensures c.if-is_empty.false) found.0 found.1

-- Each turn takes one byte, and the text is read when nothing is left.
use Rattle.yaml_lines.proofs.EscapeLaws.{writes_more, writes_all, writes_no_more, test_some, test_none}
use Rattle.yaml_lines.proofs.Exits.{absent, present, refused}
use Rattle.yaml_lines.proofs.escape.unescape.Goals as goal

pub returns-in_err-byte : goal.returns-in_err-byte
returns-in_err-byte c =
    refused _ c.from_residual-in_err-byte.result c.from_residual-in_err-byte.ensures.0
    (writes_no_more _ _ _ (test_some _ _ c.is_empty.ensures c.loop-rest-test.true) c.loop-rest.invariant
    (absent _ _ _ _ _ c.first_byte.ensures c.ok_or.ensures.ok_part c.in_err-byte.was))

pub loop-rest-preserved : goal.loop-rest-preserved
loop-rest-preserved c =
    rw c.in_ok-push.ensures.items
    (writes_more _ _ _ _ _ (test_some _ _ c.is_empty.ensures c.loop-rest-test.true) c.loop-rest.invariant
    (present _ _ _ _ _ c.first_byte.ensures c.ok_or.ensures.ok_part c.in_ok-byte.was))

pub returns : goal.returns
returns c = writes_all _ _ _ c.loop-rest.invariant (test_none _ _ c.is_empty.ensures c.loop-rest-test.false)

use Rattle.std.proofs.Common.{rules}
use Rattle.yaml_scalar.proofs.SmallNumbers.{digits-utf8, minus-utf8, zero-utf8}
use Rattle.yaml_scalar.proofs.integer_text.small_signed.Goals as goal

pub returns-in_ok-number-in-Some-clause-text : goal.returns-in_ok-number-in-Some-clause-text
returns-in_ok-number-in-Some-clause-text c =
    minus-utf8 _ _ _ c.in-Some.ensures.cases.0 c.if-sign-eq45.true c.in_ok-number-in-Some.ensures.digits

pub returns-then-is_empty-clause-text : goal.returns-then-is_empty-clause-text
returns-then-is_empty-clause-text c =
    zero-utf8 _ _ _ c.in-Some.ensures.cases.0 c.if-zero-eq48.true (search rules)

pub returns-in_ok-number-in_default-clause-text : goal.returns-in_ok-number-in_default-clause-text
returns-in_ok-number-in_default-clause-text c = digits-utf8 _ c.in_ok-number-in_default.ensures.digits

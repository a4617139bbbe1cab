use Rattle.std.proofs.Common.{rules}
use Rattle.yaml_scalar.proofs.SmallNumbers.{number-utf8, zero-utf8}
use Rattle.yaml_scalar.proofs.integer_text.small_unsigned.Goals as goal

pub returns-then-is_empty-clause-text : goal.returns-then-is_empty-clause-text
returns-then-is_empty-clause-text c =
    zero-utf8 _ _ _ c.in-Some.ensures.cases.0 c.if-zero-eq48.true (search rules)

pub returns-in_default-clause-text : goal.returns-in_default-clause-text
returns-in_default-clause-text c = number-utf8 _ _ c.small_up_to.ensures.digits

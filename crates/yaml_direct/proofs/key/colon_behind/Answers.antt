use Rattle.std.proofs.Common.{arith, sym, ◌∙◌}
use Rattle.yaml_direct.proofs.KeyLaws.{colon_found, colon_missed}
use Rattle.yaml_direct.proofs.key.colon_behind.Goals as goal

pub returns-then-is_mark-clause-found : goal.returns-then-is_mark-clause-found
returns-then-is_mark-clause-found c =
    let e = c.spaces_end-colon.ensures in
    λ h some. colon_found c.args.text.now c.args.end c.spaces_end-colon.result e.forward e.blanks
    (c.is_mark.ensures.mark c.if-is_mark.true)
    (sym (c.is_mark.ensures.same h (omega arith)) ∙ c.if-is_mark.true)

pub returns-else-is_mark-clause-missed : goal.returns-else-is_mark-clause-missed
returns-else-is_mark-clause-missed c =
    let e = c.spaces_end-colon.ensures in
    λ h short none. colon_missed c.args.text.now c.args.end c.spaces_end-colon.result e.forward e.blanks e.over
    (sym (c.is_mark.ensures.same h (omega arith)) ∙ c.if-is_mark.false)

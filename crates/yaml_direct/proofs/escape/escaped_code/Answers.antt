-- By a letter, or by digits.
use Rattle.std.proofs.Common.{◌<◌, arith, subst, sym, ◌∙◌}
use Rattle.yaml_direct.specs.Quoted.{SaysCode}
use Rattle.yaml_direct.proofs.EscapeLaws.{says_digits, says_letter}
use Rattle.yaml_direct.proofs.escape.escaped_code.Goals as goal

pub returns-then-digits-eq0-clause-code : goal.returns-then-digits-eq0-clause-code
returns-then-digits-eq0-clause-code c =
    λ is feed.
    subst (λ n. SaysCode c.args.text.now c.args.place n c.named_code.result) (sym c.if-digits-eq0.true)
    (says_letter c.args.text.now c.args.place c.args.byte c.named_code.result is c.requires.byte
    (omega (arith, c.requires.within)) (sym c.if-digits-eq0.true ∙ c.requires.digits) feed c.named_code.ensures.code
    c.named_code.ensures.small)

pub returns-else-digits-eq0-clause-code : goal.returns-else-digits-eq0-clause-code
returns-else-digits-eq0-clause-code c =
    λ is feed.
    let some : 0 < c.args.digits = omega (arith, c.if-digits-eq0.false) in
    says_digits c.args.text.now c.args.place c.args.byte c.args.digits c.code_at.result is c.requires.byte
    (omega (arith, c.requires.within)) c.requires.digits some (c.code_at.ensures.code some)

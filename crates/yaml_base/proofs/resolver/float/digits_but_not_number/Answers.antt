use Rattle.std.proofs.Common.{◌≡◌, rules, arith}
use Rattle.std.proofs.lemmas.Bool.Decides.{Decides-at}
use Rattle.std.proofs.lemmas.Grind.{common_steps}
use Rattle.yaml_base.specs.Floats.{has_leading_zero}
use Rattle.yaml_base.proofs.FloatLaws.{leading_zero-Decides}
use Rattle.yaml_base.proofs.resolver.float.digits_but_not_number.Goals as goal

pub returns-then-body-eq48-clause-exact : goal.returns-then-body-eq48-clause-exact
returns-then-body-eq48-clause-exact c =
    let e : c.has_only_digits.result ≡ has_leading_zero c.args.scalar.now =
    first_of (search rules, grind (arith, common_steps)) in
    Decides-at _ _ e (leading_zero-Decides c.args.scalar.now)

use Rattle.std.proofs.Common.{◌≡◌, rules, arith}
use Rattle.std.proofs.lemmas.Bool.Decides.{Decides-at}
use Rattle.std.proofs.lemmas.Grind.{common_steps}
use Rattle.yaml_base.specs.Floats.{is_float}
use Rattle.yaml_base.proofs.FloatLaws.{is_float-Decides}
use Rattle.yaml_base.proofs.resolver.float.is_float_text.Goals as goal

pub returns-then-is_infinity_word-clause-exact : goal.returns-then-is_infinity_word-clause-exact
returns-then-is_infinity_word-clause-exact c =
    let e : c.if-is_nan_word.value ≡ is_float c.args.scalar.now =
    first_of (search rules, grind (arith, common_steps)) in
    Decides-at _ _ e (is_float-Decides c.args.scalar.now)

pub returns-else-is_infinity_word-clause-exact : goal.returns-else-is_infinity_word-clause-exact
returns-else-is_infinity_word-clause-exact c =
    let e : c.is_decimal_float.result ≡ is_float c.args.scalar.now =
    first_of (search rules, grind (arith, common_steps)) in
    Decides-at _ _ e (is_float-Decides c.args.scalar.now)

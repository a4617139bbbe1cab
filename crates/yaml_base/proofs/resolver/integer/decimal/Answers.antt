use Rattle.std.proofs.Common.{◌≡◌, ◌<◌, length, arith, get_or}
use Rattle.std.proofs.lemmas.Str.Pattern.{starts_char}
use Rattle.yaml_base.proofs.DigitLaws.{number_in_base-zero}
use Rattle.yaml_base.proofs.resolver.integer.decimal.Goals as goal

pub returns-then-starts_with : goal.returns-then-starts_with
returns-then-starts_with c =
    let e : get_or c.args.text.now 0 0 ≡ 48 =
    (starts_char 48 c.args.text.now c.starts_with.result c.starts_with.ensures.cases (omega arith) (omega arith)).0 cc
    in
    let long : 1 < length c.args.text.now = omega arith in
    number_in_base-zero _ c.args.text.now e long

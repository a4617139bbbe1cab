use Rattle.std.proofs.Common.{ap, ◌∙◌}
use Rattle.std.specs.Prelude.{Some}
use Rattle.yaml_scalar.proofs.TextLaws.{bytes-there, bytes-missing}
use Rattle.yaml_scalar.proofs.sort.utf8_text.Goals as goal

pub returns-in-Ok : goal.returns-in-Ok
returns-in-Ok c =
    let cases = c.in-Ok.ensures in
    ap Some cases.0 ∙ bytes-there c.args.bytes.now cases.1

pub returns-in-Err : goal.returns-in-Err
returns-in-Err c = bytes-missing c.args.bytes.now c.in-Err.ensures

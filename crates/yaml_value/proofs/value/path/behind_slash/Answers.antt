-- What the clause of `strip_prefix` says at a byte.
use Rattle.std.proofs.Common.{arith}
use Rattle.std.proofs.lemmas.Str.Pattern.{strip_prefix_char}
use Rattle.yaml_value.proofs.Texts.{behind_byte-from}
use Rattle.yaml_value.proofs.value.path.behind_slash.Goals as goal

pub returns : goal.returns
returns c =
    let path = c.args.path.now in
    behind_byte-from 47 path c.strip_prefix.result
    (strip_prefix_char 47 path c.strip_prefix.result c.strip_prefix.ensures.cases (omega arith))

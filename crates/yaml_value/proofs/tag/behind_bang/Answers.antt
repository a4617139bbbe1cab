-- What the clause of `strip_prefix` says at a byte.
use Rattle.std.proofs.Common.{arith}
use Rattle.std.proofs.lemmas.Str.Pattern.{strip_prefix_char}
use Rattle.yaml_value.proofs.Texts.{behind_byte-from}
use Rattle.yaml_value.proofs.tag.behind_bang.Goals as goal

pub returns : goal.returns
returns c =
    let text = c.args.text.now in
    behind_byte-from 33 text c.strip_prefix.result
    (strip_prefix_char 33 text c.strip_prefix.result c.strip_prefix.ensures.cases (omega arith))

-- A borrowed text is UTF-8.
use Rattle.std.proofs.lemmas.Str.{is_utf8-from_IsUtf8}
use Rattle.yaml_shape.proofs.held.str_is_held.Goals as goal

pub returns : goal.returns
returns c = is_utf8-from_IsUtf8 c.args.text.now c.utf8.text

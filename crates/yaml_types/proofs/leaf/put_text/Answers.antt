-- A text that is borrowed is UTF-8.
use Rattle.std.proofs.lemmas.Str.{is_utf8-from_IsUtf8}
use Rattle.yaml_types.proofs.leaf.put_text.Goals as goal

pub returns-clause-held : goal.returns-clause-held
returns-clause-held g c = is_utf8-from_IsUtf8 c.args.text.now c.utf8.text

pub returns-in_err-string-clause-held : goal.returns-in_err-string-clause-held
returns-in_err-string-clause-held g c = is_utf8-from_IsUtf8 c.args.text.now c.utf8.text

-- Each byte so far is allowed in a text of the grammar's characters.
use Rattle.std.proofs.Common.{◌≡◌, true}
use Rattle.yaml_direct.proofs.text.has_allowed_ascii.Given as goal
use Rattle.yaml_grammar.specs.Bytes.{is_text}

abbrev pub invariant-bytes : goal.invariant-bytes
invariant-bytes l = is_text l.text ≡ true → l.allowed ≡ true

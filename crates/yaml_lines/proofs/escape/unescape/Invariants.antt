-- The text writes the bytes so far, and then what is left writes the others.
use Rattle.std.proofs.Common.{length}
use Rattle.yaml_lines.proofs.EscapeLaws.{WritesThen}
use Rattle.yaml_lines.proofs.escape.unescape.Given as goal

abbrev pub invariant-loop-rest : goal.invariant-loop-rest
invariant-loop-rest l = WritesThen l.text l.bytes.items l.rest

abbrev pub decreases-loop-rest : goal.decreases-loop-rest
decreases-loop-rest l = length l.rest

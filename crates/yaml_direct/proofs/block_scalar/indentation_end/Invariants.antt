-- Spaces stand up to here, no more than are wanted.
use Rattle.std.proofs.Common.{◌≤◌, ◌+◌}
use Rattle.yaml_direct.specs.Bytes.{AreBlanks}
use Rattle.yaml_direct.proofs.block_scalar.indentation_end.Given as goal

abbrev pub invariant-loop-count : goal.invariant-loop-count
invariant-loop-count l = record {
  blanks : AreBlanks l.text l.line (l.line + l.count);
  few : l.count ≤ l.indent;
}

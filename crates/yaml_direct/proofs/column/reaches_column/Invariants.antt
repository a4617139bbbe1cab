-- So many characters are left to be found before a place.
use Rattle.std.proofs.Common.{◌+◌, ◌≡◌, ◌<◌, ◌≤◌, length}
use Rattle.yaml_direct.proofs.ReachLaws.{wanted}
use Rattle.yaml_direct.proofs.column.reaches_column.Given as goal
use Rattle.yaml_grammar.specs.Bytes.{column}

abbrev pub invariant-line : goal.invariant-line
invariant-line l = record {
  within : l.place ≤ length l.text;
  some : 0 < l.left;
  counted : column l.text (length l.text) + l.left ≡ column l.text l.place + wanted l.least;
}

abbrev pub decreases-line : goal.decreases-line
decreases-line l = l.place

-- So many empty lines were stepped over.
use Rattle.std.proofs.Common.{◌≡◌, ◌≢◌, ◌≤◌, ◌+◌, ◌-◌, length, true}
use Rattle.yaml_direct.specs.BlockRows.{AreEmpty, IsIndented}
use Rattle.yaml_direct.specs.Bytes.{at}
use Rattle.yaml_direct.proofs.block_scalar.empties.Given as goal
use Rattle.yaml_grammar.specs.Bytes.{is_text}

abbrev pub invariant-lines : goal.invariant-lines
invariant-lines l = record {
  counted : l.from + l.count ≤ l.line;
  begun : at l.text (l.from - 1) ≡ 10 → at l.text (l.line - 1) ≡ 10;
  low : l.line ≤ l.place;
  high : l.place ≤ l.feed;
  within : l.feed ≤ length l.text;
  indented : IsIndented l.text l.indent l.line l.place;
  there : at l.text l.place ≢ 13 → l.feed ≡ l.place;
  empty : is_text l.text ≡ true → AreEmpty l.text l.indent l.count l.from l.line;
}

abbrev pub decreases-lines : goal.decreases-lines
decreases-lines l = length l.initial.text - l.feed

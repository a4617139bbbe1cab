-- What is left says the same of the block behind lines of spaces.
use Rattle.std.proofs.Common.{◌≡◌, ◌≢◌, ◌<◌, ◌≤◌, ◌-◌, drop, length, max, true}
use Rattle.yaml_direct.specs.Bytes.{AreBlanks, at}
use Rattle.yaml_direct.specs.Places.{no_place}
use Rattle.yaml_direct.proofs.header.detected.Given as goal
use Rattle.yaml_grammar.specs.BlockTexts.{found_indent, lines_of}
use Rattle.yaml_grammar.specs.Bytes.{is_text}

abbrev pub invariant-lines : goal.invariant-lines
invariant-lines l = record {
  low : l.line ≤ l.place;
  high : l.place ≤ l.feed;
  within : l.feed ≤ length l.text;
  blanks : AreBlanks l.text l.line l.place;
  space : at l.text l.place ≢ 32;
  there : at l.text l.place ≢ 13 → l.feed ≡ l.place;
  short : length l.text < no_place → l.least < no_place → l.widest < no_place;
  read : is_text l.text ≡ true → found_indent (max l.least 1) (lines_of (drop l.from l.text))
      ≡ found_indent l.widest (lines_of (drop l.line l.text));
}

abbrev pub decreases-lines : goal.decreases-lines
decreases-lines l = length l.initial.text - l.feed

-- What stands up to here and what follows it make one gap.
use Rattle.std.proofs.Common.{◌≡◌, ◌≢◌, ◌==◌, ◌≤◌, ◌<◌, ◌+◌, ◌-◌, ◌||◌, not, true, ℕ, Bool, length}
use Rattle.yaml_direct.specs.Gaps.{Gap, is_apart}
use Rattle.yaml_direct.proofs.NextLaws.{Goes}
use Rattle.yaml_direct.proofs.reader.Reader.gap.Given as goal
use Rattle.yaml_grammar.specs.Bytes.{at, column, is_text}

abbrev pub invariant-gap : goal.invariant-gap
invariant-gap l = record {
  forward : l.from ≤ l.place;
  here : l.self.line_start ≤ l.place;
  within : l.place ≤ length l.text;
  text : l.self.text.now ≡ l.text;
  start : l.self.start ≡ l.fn.self.start;
  tape : l.self.tape ≡ l.fn.self.tape;
  names : l.self.names ≡ l.fn.self.names;
  lines : l.fn.self.line ≤ l.self.line;
  front : (c : Bool) (k : ℕ) → Gap l.text c l.place k
      → Gap l.text (not (l.self.line == l.fn.self.line) || c) l.from k;
  goes : is_text l.text ≡ true → Goes l.text l.from l.place (not (l.self.line == l.fn.self.line));
  apart : l.place ≢ l.from → at l.text l.place ≡ 35 → is_apart l.text l.place ≡ true;
  same_start : l.self.line ≡ l.fn.self.line → l.self.line_start ≡ l.fn.self.line_start;
  in_line : is_text l.text ≡ true → l.self.line ≡ l.fn.self.line → l.place < length l.text → at l.text l.place ≢ 10
      → column l.text l.place ≡ column l.text l.from + (l.place - l.from);
  in_later_line : is_text l.text ≡ true → l.fn.self.line < l.self.line → l.place < length l.text
      → at l.text l.place ≢ 10 → column l.text l.place ≡ l.place - l.self.line_start;
}

abbrev pub decreases-gap : goal.decreases-gap
decreases-gap l = length l.initial.text - l.place

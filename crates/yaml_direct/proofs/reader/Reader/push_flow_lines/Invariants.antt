-- The lines that were read up to here say what was put together.
use Rattle.std.proofs.Common.{◌≡◌, ◌≤◌, ◌<◌, ◌-◌, length, true}
use Rattle.yaml_direct.specs.Places.{Grows}
use Rattle.yaml_direct.specs.PlainTexts.{IsBrokenLine}
use Rattle.yaml_direct.proofs.FlowLeaves.{FlowSoFar}
use Rattle.yaml_direct.proofs.reader.Reader.push_flow_lines.Given as goal
use Rattle.yaml_grammar.specs.Bytes.{is_text}

abbrev pub invariant-lines : goal.invariant-lines
invariant-lines l = record {
  grows : Grows l.fn.self l.self;
  forward : l.second ≤ l.next;
  low : l.end ≤ l.next;
  here : l.self.line_start ≤ l.next;
  within : l.next < length l.self.text.now;
  text : l.self.text.now ≡ l.fn.self.text.now;
  start : l.self.start ≡ l.fn.self.start;
  part : l.first ≤ l.end;
  tape : l.self.tape ≡ l.fn.self.tape;
  names : l.self.names ≡ l.fn.self.names;
  said : is_text l.fn.self.text.now ≡ true → IsBrokenLine l.fn.self.text.now l.from l.first l.second
      → FlowSoFar l.fn.self.text.now l.from l.end l.next l.broken l.value.items;
}

abbrev pub decreases-lines : goal.decreases-lines
decreases-lines l = length l.initial.self.text.now - l.next

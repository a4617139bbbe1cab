-- No event is added, and what was read was read.
use Rattle.std.proofs.Common.{◌≡◌, ◌≢◌, ◌-◌, List, length}
use Rattle.yaml_direct.specs.Documents.{HasRead}
use Rattle.yaml_direct.specs.Places.{no_place}
use Rattle.yaml_direct.proofs.document.Documents.skip_ends.Given as goal
use Rattle.yaml_grammar.specs.Nodes.{Document}
use Rattle.yaml_reading.specs.Refused.{NothingStands}

abbrev pub invariant-ends : goal.invariant-ends
invariant-ends l = record {
  text : l.self.reader.text.now ≡ l.fn.self.reader.text.now;
  tape : l.self.reader.tape ≡ l.fn.self.reader.tape;
  read : (ds : List Document) → HasRead l.fn.self ds → l.self.next ≢ no_place → HasRead l.self ds;
  left : (ds : List Document) → HasRead l.fn.self ds → l.self.next ≡ no_place
      → NothingStands l.fn.self.reader.text.now;
}

abbrev pub decreases-ends : goal.decreases-ends
decreases-ends l = length l.self.reader.text.now - l.self.next

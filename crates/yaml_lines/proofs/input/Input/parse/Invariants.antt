-- The lines so far say the events and the fault so far.
use Rattle.std.proofs.Common.{◌+◌, ◌≤◌, length}
use Rattle.yaml_lines.specs.InputText.{lines_of, marked_events_of}
use Rattle.yaml_lines.proofs.InputLaws.{HasRead}
use Rattle.yaml_lines.proofs.input.Input.parse.Given as goal

abbrev pub invariant-loop-rest : goal.invariant-loop-rest
invariant-loop-rest l = record {
  read : HasRead (lines_of l.text) l.number (marked_events_of l.events.items) l.fault (lines_of l.rest);
  few : l.number + length l.rest ≤ length l.text;
}

abbrev pub decreases-loop-rest : goal.decreases-loop-rest
decreases-loop-rest l = length l.rest

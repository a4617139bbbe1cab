-- An input has one reading.
use Rattle.yaml_lines.proofs.OneReading.{IsLine-unique}
use Rattle.yaml_lines.proofs.OneInput.{IsInput-unique, bad_line-unique, no_bad_line}
use Rattle.yaml_lines.proofs.laws.an_input_has_one_reading.Goals as goal

pub returns : goal.returns
returns c = record {
  line = IsLine-unique;
  events = IsInput-unique;
  bad = bad_line-unique;
  apart = no_bad_line;
}

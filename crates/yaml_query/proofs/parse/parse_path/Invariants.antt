-- What is left of the text gives the steps of the whole.
use Rattle.std.proofs.Common.{◌≡◌, ◌+◌, drop, length}
use Rattle.std.specs.Str.{chars}
use Rattle.yaml_query.specs.PathText.{path_steps, read_from}
use Rattle.yaml_query.specs.Reading.{plain_reading}
use Rattle.yaml_query.proofs.parse.parse_path.Given as goal

abbrev pub invariant-loop-c : goal.invariant-loop-c
invariant-loop-c l =
    (l.column ≡ length l.yielded + 1)
    × (read_from l.column l.place (plain_reading l.reading) (drop (length l.yielded) (chars l.text)) ≡ path_steps
    l.text)

-- What of a path the code has read.
use Rattle.std.specs.Prelude.{string_bytes}
use Rattle.yaml_query.specs.PathText.{PlainReading}
use Rattle.yaml_query.specs.Steps.{plain_steps}
use Rattle.yaml_query.specs.declared.reading.Reading.{Reading}

abbrev pub plain_reading : Reading → PlainReading
plain_reading r = record { steps = plain_steps r.steps.items; name = string_bytes r.name; number = r.number }

-- What stands on a tape as events of its text.
use Rattle.std.specs.Prelude.{◌≡◌, List}
use Rattle.yaml_base.specs.MarkedEvents.{plain_marked}
use Rattle.yaml_base.specs.Position.{Position}
use Rattle.yaml_base.specs.declared.event.Event.{Event}
use Rattle.yaml_parse.specs.Marks.{MarksAscend}
use Rattle.yaml_parse.specs.Places.{AreInPlace}
use Rattle.yaml_parse.specs.PlainText.{SaySources}
use Rattle.yaml_parse.specs.Shown.{AreShown}
use Rattle.yaml_tape.specs.Pushes.{marked_on}
use Rattle.yaml_tape.specs.declared.tape.Tape.{Tape}

-- There are events that are what stands on the tape, and of them is known what is known of a parser's events, but not
-- that they are a stream.
pub record StandsInText (t : Tape) : Type 0 where
  pub events : List (Event × Position)
  pub same : plain_marked events ≡ marked_on t
  pub sources : AreShown t.text.now events
  pub plain : SaySources events
  pub marks : MarksAscend t.text.now events
  pub places : AreInPlace t.text.now events

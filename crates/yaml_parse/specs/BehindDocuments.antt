-- Where the events of a text go on behind its first documents.
use Rattle.std.specs.Prelude.{◌≡◌, ◌≤◌, ℕ, All, List, Some, length}
use Rattle.yaml_base.specs.MarkedEvents.{plain_events}
use Rattle.yaml_base.specs.Places.{place_of}
use Rattle.yaml_base.specs.Position.{Position}
use Rattle.yaml_base.specs.StreamMachine.{before_stream, between_documents, run}
use Rattle.yaml_base.specs.declared.event.Event.{Event}
use Rattle.yaml_parse.specs.Marks.{MarksAscend}
use Rattle.yaml_parse.specs.Places.{AreInPlace}
use Rattle.yaml_parse.specs.PlainText.{SaySources}
use Rattle.yaml_parse.specs.Shown.{AreShown}
use Rattle.yaml_scan.specs.AllowedText.{IsAllowed}

-- The events are those of whole documents at the beginning of the text, and none begins behind the mark, which is that
-- of a place in the text.
pub record AreBefore (text : List ℕ) (events : List (Event × Position)) (mark : Position) : Type 0 where
  pub allowed : IsAllowed text
  pub between : run (Some before_stream) (plain_events events) ≡ Some between_documents
  pub shown : AreShown text events
  pub plain : SaySources events
  pub marks : MarksAscend text events
  pub places : AreInPlace text events
  pub last : All (λ e. e.1.index ≤ mark.index) events
  pub within : mark.index ≤ length text
  pub here : (mark.line, mark.column) ≡ place_of text mark.index

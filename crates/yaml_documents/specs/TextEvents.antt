-- What is known of the events of a text.
use Rattle.std.specs.Prelude.{◌≡◌, ◌<◌, ◌^◌, IsSomeAnd, List, None, Option, [], is_some, length, ℕ}
use Rattle.yaml_base.specs.MarkedEvents.{plain_events, plain_marked}
use Rattle.yaml_base.specs.PlainFault.{PlainFault}
use Rattle.yaml_base.specs.Position.{Position}
use Rattle.yaml_base.specs.Stream.{IsBeginning, IsWellFormed}
use Rattle.yaml_base.specs.declared.event.Event.{Event}
use Rattle.yaml_grammar.specs.Documents.{Stands}
use Rattle.yaml_grammar.specs.Nodes.{Document, events_of}
use Rattle.yaml_parse.specs.Faults.{IsNotReaders}
use Rattle.yaml_parse.specs.Marks.{MarksAscend}
use Rattle.yaml_parse.specs.Places.{AreInPlace}
use Rattle.yaml_parse.specs.PlainText.{SaySources}
use Rattle.yaml_parse.specs.Shown.{AreShown}
use Rattle.yaml_scan.specs.AllowedText.{IsAllowed, IsOfReader}

-- what is known of the events that a parser handed out of the text
pub record AreEventsOf (text : List ℕ) (events : List (Event × Position)) : Type 0 where
  pub begins : IsBeginning (plain_events events)
  pub sources : AreShown text events
  pub plain : SaySources events
  pub marks : MarksAscend text events
  pub places : AreInPlace text events

-- what is known of all events that a parser made of the text, and of its fault, if it met one
pub record AreRead (text : List ℕ) (events : List (Event × Position)) (fault : Option PlainFault) : Type 0 where
  pub taken : IsWellFormed (is_some fault) (plain_events events)
  pub sources : AreShown text events
  pub plain : SaySources events
  pub marks : MarksAscend text events
  pub places : AreInPlace text events
  pub allowed : IsAllowed text → IsNotReaders fault
  pub refused : (IsAllowed text → ⊥) → (events ≡ []) × IsSomeAnd fault (λ f. IsOfReader text f.kind f.offset)

-- Where documents stand in the text by the grammar, the text has no fault, and its events are exactly theirs.
abbrev pub AreTheirs : List ℕ → List (Event × Position) → Option PlainFault → Type 0
AreTheirs text events fault = (documents : List Document) → Stands text documents → length text < 2 ^ 32
    → (fault ≡ None) × (plain_marked events ≡ events_of text documents)

-- the same of all events of the text, which are those of the documents that stand in it
pub record AreParsed (text : List ℕ) (events : List (Event × Position)) (fault : Option PlainFault) : Type 0 where
  pub taken : IsWellFormed (is_some fault) (plain_events events)
  pub sources : AreShown text events
  pub plain : SaySources events
  pub marks : MarksAscend text events
  pub places : AreInPlace text events
  pub allowed : IsAllowed text → IsNotReaders fault
  pub refused : (IsAllowed text → ⊥) → (events ≡ []) × IsSomeAnd fault (λ f. IsOfReader text f.kind f.offset)
  pub stands : AreTheirs text events fault

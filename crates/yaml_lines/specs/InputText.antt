-- What the lines of the whole input say.
use Rattle.std.specs.Prelude.{◌≡◌, ◌+◌, ◌==◌, List, ℕ, [], ◌∷◌, ◌++◌, length, map, Option, None, Some, if◌then◌else◌}
use Rattle.std.specs.List.{onto_first}
use Rattle.yaml_base.specs.Position.{Position}
use Rattle.yaml_base.specs.PlainEvent.{PlainEvent, event_of}
use Rattle.yaml_base.specs.PlainFault.{PlainFault}
use Rattle.yaml_base.specs.declared.event.Event.{Event}
use Rattle.yaml_base.specs.declared.mark.Mark.{Mark}
use Rattle.yaml_lines.specs.declared.fault.InputFault.{InputFault}
use Rattle.yaml_lines.specs.declared.fault.InputFault.TheVariants.{BadLine, Memory}
use Rattle.yaml_lines.specs.LineText.{says_event, says_fault, IsLine}

-- the lines of a text, each without its line feed (10), which the last one may lack
abbrev pub lines_of : List ℕ → List (List ℕ)
lines_of [] = []
lines_of (byte ∷ bytes) = if byte == 10 then [] ∷ lines_of bytes else onto_first byte (lines_of bytes)

-- events with their marks
abbrev pub MarkedEvents : Type 0
MarkedEvents = List (PlainEvent × Position)

-- each line says an event, but for the last one, which says the fault, where there is one
abbrev pub IsInput : List (List ℕ) → MarkedEvents → Option PlainFault → Type 0
IsInput lines [] None = lines ≡ []
IsInput lines [] (Some fault) = (line : List ℕ) × (lines ≡ line ∷ []) × IsLine line (says_fault fault)
IsInput lines (e ∷ events) fault =
    (line : List ℕ) × (rest : List (List ℕ)) × (lines ≡ line ∷ rest) × IsLine line (says_event e.0 e.1)
    × IsInput rest events fault

-- the line with this number, counted from 1, is the first with which the lines so far say nothing
pub record IsFirstBadLine (lines : List (List ℕ)) (number : ℕ) : Type 0 where
  pub good : List (List ℕ)
  pub bad : List ℕ
  pub others : List (List ℕ)
  pub events : MarkedEvents
  pub fault : Option PlainFault
  pub split : lines ≡ good ++ bad ∷ others
  pub count : number ≡ length good + 1
  pub before : IsInput good events fault
  pub refused : (es : MarkedEvents) → (f : Option PlainFault) → ¬ (IsInput (good ++ bad ∷ []) es f)

-- the plain events of events with their marks
abbrev pub marked_events_of : List (Event × Mark) → MarkedEvents
marked_events_of = map (λ e. (event_of e.0, e.1))

-- why the lines are no input: the first that is bad, or memory ran out
abbrev pub IsInputFault : List (List ℕ) → InputFault → Type 0
IsInputFault lines (BadLine number) = IsFirstBadLine lines number
IsInputFault lines Memory = Unit {0}

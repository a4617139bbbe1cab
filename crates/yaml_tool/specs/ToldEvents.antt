-- What is told of the events of a text.
use Rattle.std.specs.Prelude.{ℕ, ◌≡◌, List, [], ◌∷◌, ◌++◌, Option, None, Some}
use Rattle.std.specs.List.{flat_map}
use Rattle.yaml_base.specs.PlainEvent.{event_of}
use Rattle.yaml_base.specs.PlainFault.{PlainFault}
use Rattle.yaml_base.specs.Position.{Position}
use Rattle.yaml_base.specs.declared.event.Event.{Event}
use Rattle.yaml_lines.specs.WrittenLines.{event_line, fault_line}
use Rattle.yaml_documents.specs.TextEvents.{AreParsed}
use Rattle.yaml_run.specs.declared.status.Status.{Status}
use Rattle.yaml_run.specs.declared.status.Status.TheVariants as status

-- the line of each event
abbrev pub event_lines : List (Event × Position) → List ℕ
event_lines events = flat_map (λ e. event_line (event_of e.0) e.1 ++ 10 ∷ []) events

-- the line of a fault, if there is one
abbrev pub fault_lines : Option PlainFault → List ℕ
fault_lines None = []
fault_lines (Some fault) = fault_line fault ++ 10 ∷ []

-- the status that goes with a fault, or with none
abbrev pub ended_by : Option PlainFault → Status
ended_by None = status.Read
ended_by (Some fault) = status.Fault

-- the lines of a text's events and of its fault, and the status that goes with them
pub record AreEventsTold (text : List ℕ) (ended : Status) (lines : List ℕ) : Type 0 where
  pub events : List (Event × Position)
  pub fault : Option PlainFault
  pub parsed : AreParsed text events fault
  pub ends : ended ≡ ended_by fault
  pub told : lines ≡ event_lines events ++ fault_lines fault

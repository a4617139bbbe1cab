-- Where the loader stands in a stream: the state of the machine for its phase.
use Rattle.std.specs.Prelude.{◌≡◌, Bool, List, [], ◌∷◌, Option, Some, None, false, reverse, true}
use Rattle.yaml_base.specs.PlainEvent.{PlainEvent}
use Rattle.yaml_base.specs.StreamMachine.{State, before_stream, between_documents, before_root, within, after_stream}
use Rattle.yaml_base.specs.StreamMachine.{next_state}
use Rattle.yaml_base.specs.declared.open.Open.{Open}
use Rattle.yaml_load.specs.declared.check.Phase.{Phase}
use Rattle.yaml_load.specs.declared.check.Phase.TheVariants.{Before, Between, Root, Within, Ended, After}

-- The state for a phase, and for what the collections around the innermost wait for, the outermost first.
abbrev pub phase_state : Phase → List Open → State
phase_state Before outer = before_stream
phase_state Between outer = between_documents
phase_state Root outer = before_root
phase_state (Within innermost) outer = within (innermost ∷ reverse outer)
phase_state Ended outer = within []
phase_state After outer = after_stream

-- no collection stands around but within one
abbrev pub IsClean : Phase → List Open → Type 0
IsClean (Within innermost) outer = Unit {0}
IsClean _ outer = outer ≡ []

-- what the open collections wait for, the innermost first: the one around, if there is one, and those around that
abbrev pub opened_in : Option Open → List Open → List Open
opened_in None outer = []
opened_in (Some around) outer = around ∷ reverse outer

-- an event leads from a phase to another, or may not stand there
abbrev pub Moves : Phase → List Open → PlainEvent → List Open → Option Phase → Type 0
Moves phase old e new None = next_state (phase_state phase old) e ≡ None
Moves phase old e new (Some found) =
    (next_state (phase_state phase old) e ≡ Some (phase_state found new)) × IsClean found new

-- the phase behind the end of the stream, and those within a document
abbrev pub is_done : Phase → Bool
is_done After = true
is_done _ = false

abbrev pub is_open : Phase → Bool
is_open Root = true
is_open (Within innermost) = true
is_open Ended = true
is_open _ = false

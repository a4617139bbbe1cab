-- What a loader has made of the events that it took so far.
use Rattle.std.specs.Prelude.{◌≡◌, ℕ, List, ◌++◌, Option, Some, length}
use Rattle.yaml_base.specs.Position.{Position}
use Rattle.yaml_base.specs.PlainFault.{PlainFault}
use Rattle.yaml_base.specs.StreamMachine.{before_stream, run}
use Rattle.yaml_base.specs.declared.open.Open.{Open}
use Rattle.yaml_load.specs.Documents.{Input, last_mark}
use Rattle.yaml_load.specs.MarkedEvents.{events_in}
use Rattle.yaml_load.specs.StreamPhases.{IsClean, phase_state}
use Rattle.yaml_load.specs.declared.check.Phase.{Phase}
use Rattle.yaml_load.specs.declared.loader.draft.Draft.{Draft}
use Rattle.yaml_load.specs.inner.Loading.{IsOnWay, is_inside}

-- The events lead from the start to the phase and to what the collections around the innermost wait for, these are the
-- mark of the last of them and their number, and the draft holds what they make of it, whatever fault and whatever
-- events are to come.
pub record HasTaken (phase : Phase) (outer : List Open) (end : Option Position) (count : ℕ) (taken : Input) (d : Draft)
    : Type 0 where
  pub clean : IsClean phase outer
  pub ran : run (Some before_stream) (events_in taken) ≡ Some (phase_state phase outer)
  pub last : end ≡ last_mark taken
  pub counted : count ≡ length taken
  pub way : (fault : Option PlainFault) (left : Input)
      → IsOnWay (is_inside (phase_state phase outer)) fault (taken ++ left) left d

-- Where events lead to a state, a stream begins with them.
use Rattle.std.proofs.Common.{◌≡◌, List, None, Option, Some, refl}
use Rattle.yaml_base.proofs.StreamMachineLaws.{goes_on_run}
use Rattle.yaml_base.specs.PlainEvent.{PlainEvent}
use Rattle.yaml_base.specs.Stream.{IsBeginning}
use Rattle.yaml_base.specs.StreamMachine.{State, before_stream, run}

some_of : (found : Option State) → (found ≡ None → ⊥) → (s : State) × (found ≡ Some s)
some_of None there = absurd (there refl)
some_of (Some s) there = (s, refl)

pub goes_on : (events : List PlainEvent) → (run (Some before_stream) events ≡ None → ⊥) → IsBeginning events
goes_on events there = (goes_on_run events).1 (some_of (run (Some before_stream) events) there)

-- How a call that writes is tied to what a definition says is written.
use Rattle.std.specs.Prelude.{◌≡◌, List, ◌++◌, Result, Ok, Err}
use Rattle.yaml_base.specs.Answer.{Fails}
use Rattle.yaml_base.specs.EmitEvents.{PlainEmit}
use Rattle.yaml_base.specs.declared.error.Cause.{Cause}
use Rattle.yaml_base.specs.declared.error.Cause.TheVariants.{Memory}
use Rattle.yaml_write.specs.Outcomes.{made}
use Rattle.yaml_write.specs.Writing.{Writing}

-- the events that were there are there, perhaps with others behind them
abbrev pub KeepsEvents : (old new : List PlainEmit) → Type 0
KeepsEvents old new = (more : List PlainEmit) × (new ≡ old ++ more)

-- The call put the events of what is given behind those that were there. Else it answers the cause that is given, or
-- want of memory, and what it left behind them is not said.
abbrev pub Adds : {A B : Type 0} → (B → List PlainEmit) → Result B Cause → (old new : List PlainEmit) → Result A Cause
    → Type 0
Adds view given old new (Ok a) = made (λ part. old ++ view part) given ≡ Ok new
Adds view given old new (Err cause) = Fails cause given × KeepsEvents old new

-- The same, and where the call answers a cause, it left nothing.
abbrev pub AddsOrStays : {A B : Type 0} → (B → List PlainEmit) → Result B Cause → (old new : List PlainEmit)
    → Result A Cause → Type 0
AddsOrStays view given old new (Ok a) = made (λ part. old ++ view part) given ≡ Ok new
AddsOrStays view given old new (Err cause) = Fails cause given × (new ≡ old)

-- The call left what is given, placed into what was there. Else it answers the cause that is given, or want of
-- memory, and all is as it was.
abbrev pub WritesOrStays : {A B : Type 0} → (B → Writing) → Result B Cause → (old new : Writing) → Result A Cause
    → Type 0
WritesOrStays placed given old new (Ok a) = made placed given ≡ Ok new
WritesOrStays placed given old new (Err cause) = Fails cause given × (new ≡ old)

-- The call left this. Else it answers want of memory, and all is as it was.
abbrev pub Leaves : {A : Type 0} → (left old new : Writing) → Result A Cause → Type 0
Leaves left old new (Ok a) = new ≡ left
Leaves left old new (Err cause) = (cause ≡ Memory) × (new ≡ old)

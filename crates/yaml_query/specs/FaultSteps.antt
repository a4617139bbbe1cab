-- Faults of JSON, and steps before them.
use Rattle.std.specs.Prelude.{◌≡◌, [], ◌∷◌}
use Rattle.yaml_query.specs.Steps.{PlainStep, plain_steps}
use Rattle.yaml_query.specs.declared.fault.JsonFault.{JsonFault}
use Rattle.yaml_query.specs.declared.fault.JsonFault.TheVariants as fault
use Rattle.yaml_query.specs.declared.fault.Reason.{Reason}

-- a fault of the value itself
abbrev pub IsHere : Reason → JsonFault → Type 0
IsHere why (fault.At reason path) = (reason ≡ why) × (plain_steps path.steps.items ≡ [])
IsHere why fault.Memory = ⊥

-- the same fault, with a step before its way
abbrev pub IsBehindStep : PlainStep → (given told : JsonFault) → Type 0
IsBehindStep s given fault.Memory = Unit {0}
IsBehindStep s (fault.At why path) (fault.At reason way) =
    (reason ≡ why) × (plain_steps way.steps.items ≡ s ∷ plain_steps path.steps.items)
IsBehindStep s fault.Memory (fault.At reason way) = ⊥

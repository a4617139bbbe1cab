-- The cause in a box.
use Rattle.std.specs.Prelude.{Option, Some, None}
use Rattle.std.specs.Global.{Box}
use Rattle.yaml_base.specs.declared.error.Cause.{Cause}
use Rattle.yaml_base.specs.declared.error.Cause.TheVariants.{Memory}

-- that of the boxed fault, and want of memory where there is none
abbrev pub boxed_cause : Option (Box Cause) → Cause
boxed_cause None = Memory
boxed_cause (Some fault) = fault.value

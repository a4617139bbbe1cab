-- What a fault of building a value prints, and the cause that it is.
use Rattle.std.specs.Prelude.{None, ℕ, List, codes, string_bytes}
use Rattle.yaml_base.specs.declared.error.Cause.{Cause}
use Rattle.yaml_base.specs.declared.error.Cause.TheVariants as cause
use Rattle.yaml_types.specs.declared.fault.BuildFault.{BuildFault}
use Rattle.yaml_types.specs.declared.fault.BuildFault.TheVariants.{Memory, Message}

-- what a fault says: its message, if it has one
abbrev pub build_fault_text : BuildFault → List ℕ
build_fault_text Memory = codes "out of memory"
build_fault_text (Message text) = string_bytes text

-- the cause that such a fault is: its message, if it has one
abbrev pub build_cause : BuildFault → Cause
build_cause Memory = cause.Memory
build_cause (Message text) = cause.Custom (string_bytes text) None

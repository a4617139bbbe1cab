-- Why a value was not written to a writer.
use Rattle.std.specs.Prelude.{ℕ, List, Option, None, Some}
use Rattle.yaml_base.specs.declared.error.Cause.{Cause}
use Rattle.yaml_base.specs.ErrorText.{error_text}
use Rattle.yaml_emit.specs.declared.write_fault.WriteFault.{WriteFault}
use Rattle.yaml_emit.specs.declared.write_fault.WriteFault.TheVariants.{Value, Writer}

-- if the fault is that of the value, and not the writer's, this holds of it
abbrev pub IfOfValue : (Cause → Type 0) → WriteFault → Type 0
IfOfValue Holds (Value fault) = Holds fault
IfOfValue Holds (Writer fault) = Unit {0}

-- what a fault prints, where that is known: of the writer's own it is not
abbrev pub write_fault_text : WriteFault → Option (List ℕ)
write_fault_text (Value fault) = Some (error_text fault)
write_fault_text (Writer fault) = None

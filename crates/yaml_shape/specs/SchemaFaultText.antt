-- The printed text of a refused table of shapes.
use Rattle.std.specs.Prelude.{ℕ, List, ◌++◌, None, codes, decimal}
use Rattle.yaml_base.specs.declared.error.Cause.{Cause}
use Rattle.yaml_base.specs.declared.error.Cause.TheVariants as cause
use Rattle.yaml_shape.specs.declared.fault.SchemaFault.{SchemaFault}
use Rattle.yaml_shape.specs.declared.fault.SchemaFault.TheVariants.{OutsideTable, OptionCycle, NameTwice, TooManyShapes}
use Rattle.yaml_shape.specs.declared.fault.SchemaFault.TheVariants.{Memory}

-- what is wrong; OutsideTable, OptionCycle and NameTwice tell the number of the shape too
abbrev pub schema_fault_text : SchemaFault → List ℕ
schema_fault_text (OutsideTable number) = codes "shape " ++ (decimal number ++ codes " names a shape outside the table")
schema_fault_text (OptionCycle number) = codes "shape " ++ (decimal number ++ codes " is a cycle of options")
schema_fault_text (NameTwice number) = codes "shape " ++ (decimal number ++ codes " has a name twice")
schema_fault_text TooManyShapes = codes "more than 4096 shapes"
schema_fault_text Memory = codes "out of memory"

-- the cause that such a refusal is: its text, if it is no want of memory
abbrev pub schema_cause : SchemaFault → Cause
schema_cause Memory = cause.Memory
schema_cause fault = cause.Custom (schema_fault_text fault) None

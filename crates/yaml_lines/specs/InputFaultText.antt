-- What a fault of a line, and of an input of lines, prints.
use Rattle.std.specs.Prelude.{ℕ, List, ◌++◌, codes, decimal}
use Rattle.yaml_lines.specs.declared.fault.InputFault.{InputFault}
use Rattle.yaml_lines.specs.declared.fault.InputFault.TheVariants as I
use Rattle.yaml_lines.specs.declared.fault.LineFault.{LineFault}
use Rattle.yaml_lines.specs.declared.fault.LineFault.TheVariants as L

-- what a fault of a line says
abbrev pub line_fault_text : LineFault → List ℕ
line_fault_text L.Bad = codes "bad line"
line_fault_text L.Memory = codes "out of memory"

-- what a fault of an input says, with the number of its first bad line
abbrev pub input_fault_text : InputFault → List ℕ
input_fault_text (I.BadLine number) = codes "bad line " ++ decimal number
input_fault_text I.Memory = codes "out of memory"

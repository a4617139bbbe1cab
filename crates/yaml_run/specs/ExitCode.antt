-- The exit status of a program.
use Rattle.std.specs.Prelude.{ℕ}
use Rattle.yaml_run.specs.declared.status.Status.{Status}
use Rattle.yaml_run.specs.declared.status.Status.TheVariants as status

-- the exit status of a program
abbrev pub code_of : Status → ℕ
code_of status.Read = 0
code_of status.Fault = 1
code_of status.Refused = 2
code_of status.OutOfMemory = 2
code_of status.ReadFailed = 2
code_of status.WriteFailed = 2

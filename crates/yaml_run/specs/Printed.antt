-- What an answer prints, and how a run that prints it ends.
use Rattle.std.specs.Prelude.{ℕ, ◌≡◌, ◌≢◌, List, codes, Option, string_bytes}
use Rattle.std.specs.Io.KnownBytes.{Appends}
use Rattle.yaml_run.specs.declared.answer.Answer.{Answer}
use Rattle.yaml_run.specs.declared.answer.Answer.TheVariants.{Made, OutOfMemory, BadArgument}
use Rattle.yaml_run.specs.declared.status.Status.{Status}
use Rattle.yaml_run.specs.declared.status.Status.TheVariants as status

-- what an answer prints, each line with its line feed
abbrev pub line_of : Answer → List ℕ
line_of (Made ended line) = string_bytes line
line_of OutOfMemory = codes "fault: out of memory\n"
line_of BadArgument = codes "bad argument\n"

-- the status that goes with it
abbrev pub status_of : Answer → Status
status_of (Made ended line) = ended
status_of OutOfMemory = status.Fault
status_of BadArgument = status.Refused

-- a run that prints a line writes it and ends with its status, unless the writer fails; what the writer holds is told
-- where it is known
abbrev pub Prints : (old new : Option (List ℕ)) → (line : List ℕ) → (ended result : Status) → Type 0
Prints old new line ended result = result ≢ status.WriteFailed → (result ≡ ended) × Appends old new line

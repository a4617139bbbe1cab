-- What a run prints of its reply, and how it ends.
use Rattle.std.specs.Prelude.{ℕ, ◌≡◌, ◌≢◌, Bool, true, false, List, Option}
use Rattle.std.specs.Io.KnownBytes.{Appends}
use Rattle.yaml_run.specs.declared.input.Unanswered.{Unanswered}
use Rattle.yaml_run.specs.declared.input.Unanswered.TheVariants as reply
use Rattle.yaml_probe.specs.declared.status.Status.{Status}
use Rattle.yaml_probe.specs.declared.status.Status.TheVariants as status

-- the status that goes with a reply, whose tables are all schemas or not
abbrev pub reply_status : (accepted : Bool) → Status
reply_status true = status.Answered
reply_status false = status.TableRefused

-- the status where there is no reply
abbrev pub status_without : Unanswered → Status
status_without reply.Unread = status.ReadFailed
status_without reply.OutOfMemory = status.OutOfMemory

-- a run that prints lines writes them and ends with their status, unless the writer fails; what the writer holds is
-- told where it is known
abbrev pub PrintsLines : (old new : Option (List ℕ)) → (lines : List ℕ) → (ended result : Status) → Type 0
PrintsLines old new lines ended result = result ≢ status.WriteFailed → (result ≡ ended) × Appends old new lines

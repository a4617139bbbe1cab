-- An answer ends no run as a failed read.
use Rattle.std.specs.Prelude.{None, Some}
use Rattle.std.proofs.Common.{◌≡◌, ◌≢◌, ◌⊎◌, inl, inr, ℕ, List, [], ◌∷◌, Option, sym, ◌∙◌}
use Rattle.yaml_base.specs.PlainFault.{PlainFault}
use Rattle.yaml_base.specs.declared.error.Cause.{Cause}
use Rattle.yaml_run.specs.Shown.{ended_by}
use Rattle.yaml_run.specs.declared.status.Status.{Status}
use Rattle.yaml_run.specs.declared.status.Status.TheVariants as status
use Rattle.yaml_tool.specs.Answers.{IsAnswer, IsAsked}
use Rattle.yaml_tool.specs.Answers.IsAnswer.{answered, out_of_memory}
use Rattle.yaml_tool.specs.ToldEvents.{ended_by as events_end}
use Rattle.yaml_tool.specs.declared.task.Task.{Task}
use Rattle.yaml_tool.specs.declared.task.Task.TheVariants as task

-- an ending that is one of three is no failed read
read-apart : (ended : Status) → ended ≡ status.Read → ended ≢ status.ReadFailed
read-apart ended e = λ f. let same = sym e ∙ f in absurd cc

fault-apart : (ended : Status) → ended ≡ status.Fault → ended ≢ status.ReadFailed
fault-apart ended e = λ f. let same = sym e ∙ f in absurd cc

memory-apart : (ended : Status) → ended ≡ status.OutOfMemory → ended ≢ status.ReadFailed
memory-apart ended e = λ f. let same = sym e ∙ f in absurd cc

either-read : (ended : Status) → (ended ≡ status.Read) ⊎ (ended ≡ status.Fault) → ended ≢ status.ReadFailed
either-read ended (inl e) = read-apart ended e
either-read ended (inr e) = fault-apart ended e

faults-read : (faults : List Cause) (ended : Status) → ended ≡ ended_by faults → ended ≢ status.ReadFailed
faults-read [] ended e = read-apart ended e
faults-read (cause ∷ causes) ended e = fault-apart ended e

events-read : (fault : Option PlainFault) (ended : Status) → ended ≡ events_end fault → ended ≢ status.ReadFailed
events-read None ended e = read-apart ended e
events-read (Some fault) ended e = fault-apart ended e

asked-read : (t : Task) (bytes : List ℕ) (ended : Status) (text : List ℕ) (faults : List Cause)
    → IsAsked t bytes ended text faults → ended ≢ status.ReadFailed
asked-read (task.Show limits) bytes ended text faults h = faults-read faults ended h.0
asked-read (task.ShowEach limits) bytes ended text faults h = faults-read faults ended h.0
asked-read (task.Convert limits) bytes ended text faults h = faults-read faults ended h
asked-read (task.Ask question) bytes ended text faults h = faults-read faults ended h.0
asked-read (task.AskEach question) bytes ended text faults h = faults-read faults ended h.0
asked-read task.FromJson bytes ended text faults h = faults-read faults ended h.0
asked-read task.Events bytes ended text faults h = events-read h.0.fault ended h.0.ends
asked-read task.FullEvents bytes ended text faults h = either-read ended h.0
asked-read task.Check bytes ended text faults h = faults-read faults ended h

-- an answer ends no run as a failed read
pub answer-read : (t : Task) (bytes : List ℕ) (ended : Status) (text : List ℕ) (faults : List Cause)
    → IsAnswer t bytes ended text faults → ended ≢ status.ReadFailed
answer-read t bytes ended text faults (answered h) = asked-read t bytes ended text faults h
answer-read t bytes ended text faults (out_of_memory e l n) = memory-apart ended e

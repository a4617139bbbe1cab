-- What a run prints of a text, by what is asked of it, and which faults it tells.
use Rattle.std.specs.Prelude.{ℕ, ◌≡◌, ◌⊎◌, List, []}
use Rattle.yaml_base.specs.declared.error.Cause.{Cause}
use Rattle.yaml_read.specs.Documents.{documents_of}
use Rattle.yaml_shape.specs.PlainShape.{PlainShape}
use Rattle.serde_yaml.specs.TextReads.{IsParsed}
use Rattle.yaml_run.specs.Shapes.{table_of, first_shape}
use Rattle.yaml_run.specs.Shown.{AreShown, ended_by, IsShown}
use Rattle.yaml_run.specs.declared.shapes.Named.TheVariants as named
use Rattle.yaml_run.specs.declared.status.Status.{Status}
use Rattle.yaml_run.specs.declared.status.Status.TheVariants as status
use Rattle.yaml_tool.specs.Asked.{AnswersJson, AnswersOne, AnswersText}
use Rattle.yaml_tool.specs.ToldEvents.{AreEventsTold}
use Rattle.yaml_tool.specs.declared.task.Task.{Task}
use Rattle.yaml_tool.specs.declared.task.Task.TheVariants as task

-- the table of values of any kind, and its first shape
abbrev pub any_table : List PlainShape
any_table = table_of named.Any

abbrev pub any_first : PlainShape
any_first = first_shape named.Any

-- What is asked, of the bytes of a text. Of what is not data, a part or events in lines, no more is said than how its
-- run ends: as a fault where faults are told.
abbrev pub IsAsked : Task → (bytes : List ℕ) → (ended : Status) → (text : List ℕ) → (faults : List Cause) → Type 0
IsAsked (task.Show limits) bytes ended text faults =
    (ended ≡ ended_by faults) × IsShown limits any_table any_first bytes text faults
IsAsked (task.ShowEach limits) bytes ended text faults = (ended ≡ ended_by faults)
    × IsParsed bytes (λ events fault. AreShown limits any_table any_first (documents_of events fault) text faults)
IsAsked (task.Ask question) bytes ended text faults =
    (ended ≡ ended_by faults) × AnswersOne question bytes text faults
IsAsked (task.AskEach question) bytes ended text faults =
    (ended ≡ ended_by faults) × AnswersText question bytes text faults
IsAsked task.FromJson bytes ended text faults = (ended ≡ ended_by faults) × AnswersJson bytes text faults
IsAsked task.Events bytes ended text faults = AreEventsTold bytes ended text × (faults ≡ [])
IsAsked task.FullEvents bytes ended text faults = ((ended ≡ status.Read) ⊎ (ended ≡ status.Fault)) × (faults ≡ [])
IsAsked _ bytes ended text faults = ended ≡ ended_by faults

-- the status, the text and the faults that stand for the bytes of a text: what is asked, or that memory ran out, and
-- then no text and no fault
pub data IsAnswer (asked : Task) (bytes : List ℕ) (ended : Status) (text : List ℕ) (faults : List Cause)
    : Type 0 where
  answered : IsAsked asked bytes ended text faults → IsAnswer asked bytes ended text faults
  out_of_memory : ended ≡ status.OutOfMemory → text ≡ [] → faults ≡ [] → IsAnswer asked bytes ended text faults

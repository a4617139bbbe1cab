-- What is told of a reading.
use Rattle.std.specs.Prelude.{ℕ, ◌≡◌, List, ◌++◌, codes, decimal, true, Result, Ok, Err}
use Rattle.yaml_base.specs.declared.error.Cause.{Cause}
use Rattle.yaml_shape.specs.DataView.{data_of}
use Rattle.yaml_shape.specs.declared.data.Data.{Data}
use Rattle.yaml_run.specs.Audiences.{data_told, fault_told, is_told}
use Rattle.yaml_run.specs.declared.audience.Audience.{Audience}
use Rattle.yaml_run.specs.declared.status.Status.{Status}
use Rattle.yaml_run.specs.declared.status.Status.TheVariants as status

-- the status and the text that stand for what a reading found
abbrev pub Tells : Audience → Result Data Cause → (ended : Status) → (text : List ℕ) → Type 0
Tells audience (Ok content) ended text = (ended ≡ status.Read) × (text ≡ data_told audience (data_of content))
Tells audience (Err cause) ended text = (ended ≡ status.Fault) × (text ≡ fault_told audience cause)
    × (is_told audience cause ≡ true)

-- those of an input whose line with this number is the first that says nothing
abbrev pub TellsBadLine : (number : ℕ) → (ended : Status) → (text : List ℕ) → Type 0
TellsBadLine number ended text = (ended ≡ status.Refused) × (text ≡ codes "bad line " ++ decimal number)

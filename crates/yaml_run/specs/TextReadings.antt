-- What a text is read as.
use Rattle.std.specs.Prelude.{ℕ, ◌≡◌, List, codes, Ok, Err}
use Rattle.yaml_base.specs.declared.error.Cause.{Cause}
use Rattle.yaml_run.specs.Audiences.{data_told, fault_told}
use Rattle.yaml_run.specs.declared.audience.Audience.{Audience}
use Rattle.yaml_run.specs.declared.audience.Audience.TheVariants.{Programs}
use Rattle.yaml_run.specs.declared.status.Status.{Status}
use Rattle.yaml_run.specs.declared.status.Status.TheVariants as status
use Rattle.yaml_read.specs.TreeReader.{PlainLimits}
use Rattle.yaml_shape.specs.PlainData.{PlainData}
use Rattle.yaml_shape.specs.PlainShape.{PlainShape}
use Rattle.serde_yaml.specs.TextReads.{TextGives}

-- how a reading of a text ends, within limits as a shape of a table, and what tells an audience what it gave; want of
-- memory is told to programs alone
pub data IsTextReading (audience : Audience) (limits : PlainLimits) (table : List PlainShape) (shape : PlainShape)
    (text : List ℕ) (ended : Status) (told : List ℕ) : Type 0 where
  found : (value : PlainData) → TextGives limits table shape text (Ok value)
      → ended ≡ status.Read → told ≡ data_told audience value
      → IsTextReading audience limits table shape text ended told
  refused : (cause : Cause) → TextGives limits table shape text (Err cause)
      → ended ≡ status.Fault → told ≡ fault_told audience cause
      → IsTextReading audience limits table shape text ended told
  out_of_memory : audience ≡ Programs → ended ≡ status.Fault → told ≡ codes "fault: out of memory"
      → IsTextReading audience limits table shape text ended told

-- What lines of events are read as.
use Rattle.std.specs.Prelude.{ℕ, ◌≡◌, List, ◌++◌, codes, decimal, Option, Ok, Err}
use Rattle.yaml_base.specs.ErrorText.{error_text}
use Rattle.yaml_base.specs.PlainFault.{PlainFault}
use Rattle.yaml_base.specs.declared.error.Cause.{Cause}
use Rattle.yaml_lines.specs.DataText.{data_text}
use Rattle.yaml_lines.specs.InputText.{lines_of, MarkedEvents, IsInput, IsFirstBadLine}
use Rattle.yaml_run.specs.declared.status.Status.{Status}
use Rattle.yaml_run.specs.declared.status.Status.TheVariants as status
use Rattle.yaml_read.specs.TreeReader.{PlainLimits}
use Rattle.yaml_shape.specs.PlainData.{PlainData}
use Rattle.yaml_shape.specs.PlainShape.{PlainShape}
use Rattle.serde_yaml.specs.StreamReads.{InputGives}

-- how a reading of lines ends, within limits as a shape of a table, and the text that tells what they gave
pub data IsReading (limits : PlainLimits) (table : List PlainShape) (shape : PlainShape) (lines : List ℕ)
    (ended : Status) (text : List ℕ) : Type 0 where
  bad_line : (number : ℕ) → IsFirstBadLine (lines_of lines) number → ended ≡ status.Refused
      → text ≡ codes "bad line " ++ decimal number → IsReading limits table shape lines ended text
  found : (events : MarkedEvents) (fault : Option PlainFault) (value : PlainData)
      → IsInput (lines_of lines) events fault
      → InputGives limits table shape events fault (Ok value) → ended ≡ status.Read → text ≡ data_text value
      → IsReading limits table shape lines ended text
  refused : (events : MarkedEvents) (fault : Option PlainFault) (cause : Cause) → IsInput (lines_of lines) events fault
      → InputGives limits table shape events fault (Err cause) → ended ≡ status.Fault
      → text ≡ codes "fault: " ++ error_text cause → IsReading limits table shape lines ended text
  out_of_memory : ended ≡ status.Fault → text ≡ codes "fault: out of memory"
      → IsReading limits table shape lines ended text

-- What people are shown of a reading: a line for data, and faults, which are told beside the lines.
use Rattle.std.specs.Prelude.{ℕ, ◌≡◌, List, [], ◌∷◌, ◌++◌, false, Result, Ok, Err}
use Rattle.yaml_base.specs.Answer.{is_memory}
use Rattle.yaml_base.specs.PlainDocument.{PlainDocument}
use Rattle.yaml_base.specs.Quoted.{visible}
use Rattle.yaml_base.specs.declared.error.Cause.{Cause}
use Rattle.yaml_lines.specs.DataText.{data_text}
use Rattle.yaml_read.specs.Reads.{DocumentGives}
use Rattle.yaml_read.specs.TreeReader.{PlainLimits}
use Rattle.yaml_shape.specs.DataView.{data_of}
use Rattle.yaml_shape.specs.PlainData.{PlainData}
use Rattle.yaml_shape.specs.PlainShape.{PlainShape}
use Rattle.yaml_shape.specs.declared.data.Data.{Data}
use Rattle.serde_yaml.specs.TextReads.{TextGives}
use Rattle.yaml_run.specs.declared.status.Status.{Status}
use Rattle.yaml_run.specs.declared.status.Status.TheVariants as status

-- the line that shows data: its text without control characters, and a line feed
abbrev pub data_line : PlainData → List ℕ
data_line value = visible (data_text value) ++ 10 ∷ []

-- the status that goes with faults, or with none
abbrev pub ended_by : List Cause → Status
ended_by [] = status.Read
ended_by (cause ∷ causes) = status.Fault

-- the text and the faults that stand for what a reading found; want of memory is no fault
abbrev pub Shows : Result Data Cause → (text : List ℕ) → (faults : List Cause) → Type 0
Shows (Ok content) text faults = (text ≡ data_line (data_of content)) × (faults ≡ [])
Shows (Err cause) text faults = (text ≡ []) × (faults ≡ cause ∷ []) × (is_memory cause ≡ false)

-- what is shown of a text, read within limits as a shape of a table
pub data IsShown (limits : PlainLimits) (table : List PlainShape) (shape : PlainShape) (bytes : List ℕ)
    (text : List ℕ) (faults : List Cause) : Type 0 where
  found : (value : PlainData) → TextGives limits table shape bytes (Ok value) → text ≡ data_line value → faults ≡ []
      → IsShown limits table shape bytes text faults
  refused : (cause : Cause) → TextGives limits table shape bytes (Err cause) → text ≡ [] → faults ≡ cause ∷ []
      → IsShown limits table shape bytes text faults

-- the same of one document
pub data IsOneShown (limits : PlainLimits) (table : List PlainShape) (shape : PlainShape) (document : PlainDocument)
    (text : List ℕ) (faults : List Cause) : Type 0 where
  one_found : (value : PlainData) → DocumentGives limits table shape document (Ok value) → text ≡ data_line value
      → faults ≡ [] → IsOneShown limits table shape document text faults
  one_refused : (cause : Cause) → DocumentGives limits table shape document (Err cause) → text ≡ []
      → faults ≡ cause ∷ [] → IsOneShown limits table shape document text faults

-- what is shown of documents, one behind the other
pub data AreShown (limits : PlainLimits) (table : List PlainShape) (shape : PlainShape)
    : List PlainDocument → List ℕ → List Cause → Type 0 where
  no_more : AreShown limits table shape [] [] []
  one_more : (document : PlainDocument) (documents : List PlainDocument) (text others : List ℕ)
      (faults more : List Cause) → IsOneShown limits table shape document text faults
      → AreShown limits table shape documents others more
      → AreShown limits table shape (document ∷ documents) (text ++ others) (faults ++ more)

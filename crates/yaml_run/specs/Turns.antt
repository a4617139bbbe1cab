-- What is told of documents that are read in turn.
use Rattle.std.specs.Prelude.{ℕ, ◌≡◌, List, [], ◌∷◌, ◌++◌, codes, Ok, Err}
use Rattle.yaml_base.specs.PlainDocument.{PlainDocument}
use Rattle.yaml_base.specs.declared.error.Cause.{Cause}
use Rattle.yaml_read.specs.Reads.{DocumentGives}
use Rattle.yaml_read.specs.TreeReader.{PlainLimits}
use Rattle.yaml_run.specs.Audiences.{data_told, fault_told}
use Rattle.yaml_run.specs.declared.audience.Audience.{Audience}
use Rattle.yaml_run.specs.declared.audience.Audience.TheVariants.{Programs}
use Rattle.yaml_run.specs.declared.status.Status.{Status}
use Rattle.yaml_run.specs.declared.status.Status.TheVariants as status
use Rattle.yaml_shape.specs.PlainData.{PlainData}
use Rattle.yaml_shape.specs.PlainShape.{PlainShape}

-- how the reading of a document ends, within limits as a shape of a table, and the text that tells an audience what it
-- gave; want of memory is told to programs alone
pub data IsToldOf (audience : Audience) (limits : PlainLimits) (table : List PlainShape) (shape : PlainShape)
    (document : PlainDocument) (ended : Status) (text : List ℕ) : Type 0 where
  found : (value : PlainData) → DocumentGives limits table shape document (Ok value) → ended ≡ status.Read
      → text ≡ data_told audience value → IsToldOf audience limits table shape document ended text
  refused : (cause : Cause) → DocumentGives limits table shape document (Err cause) → ended ≡ status.Fault
      → text ≡ fault_told audience cause → IsToldOf audience limits table shape document ended text
  out_of_memory : audience ≡ Programs → ended ≡ status.Fault → text ≡ codes "fault: out of memory"
      → IsToldOf audience limits table shape document ended text

-- how two readings end in all: as the second, unless the first has a fault
abbrev pub in_all : Status → Status → Status
in_all status.Read next = next
in_all first next = first

-- how the readings of documents end in all, and their lines, each with its line feed
pub data AreToldInTurn (audience : Audience) (limits : PlainLimits) (table : List PlainShape) (shape : PlainShape)
    : List PlainDocument → Status → List ℕ → Type 0 where
  no_more : AreToldInTurn audience limits table shape [] status.Read []
  one_more : (document : PlainDocument) (documents : List PlainDocument) (ended others : Status) (line lines : List ℕ)
      → IsToldOf audience limits table shape document ended line
      → AreToldInTurn audience limits table shape documents others lines
      → AreToldInTurn audience limits table shape (document ∷ documents) (in_all ended others) (line ++ 10 ∷ lines)

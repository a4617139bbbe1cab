-- What a text gives once its merge keys are treated.
use Rattle.std.specs.Prelude.{◌≡◌, ◌<◌, ℕ, List, [], ◌∷◌, length, Option, Some, is_some, Result, Err}
use Rattle.yaml_base.specs.PlainDocument.{PlainDocument}
use Rattle.yaml_base.specs.PlainFault.{PlainFault}
use Rattle.yaml_base.specs.declared.error.Cause.{Cause}
use Rattle.yaml_base.specs.declared.error.Cause.TheVariants.{EndOfStream, NotAStream}
use Rattle.yaml_documents.specs.TextDocuments.{IsParsed}
use Rattle.yaml_merge.specs.Treated.{IsTreated, IsUntreated}
use Rattle.yaml_merge.specs.declared.merge.Merge.{Merge}
use Rattle.yaml_read.specs.Documents.{Input, documents_of}
use Rattle.yaml_read.specs.MarkedEvents.{events_in}
use Rattle.yaml_read.specs.Reads.{DocumentGives}
use Rattle.yaml_read.specs.TreeReader.{PlainLimits}
use Rattle.yaml_read.specs.WrongPlace.{IsWrongAt}
use Rattle.yaml_shape.specs.PlainData.{PlainData}
use Rattle.yaml_shape.specs.PlainShape.{PlainShape, shape_at}
use Rattle.yaml_shape.specs.Validity.{IsValidSchema}
use Rattle.yaml_types.specs.Start.{Start}
use Rattle.serde_yaml.specs.OwnEvents.{events_alone}
use Rattle.serde_yaml.specs.StreamReads.{some_follow, unless_more}
use Rattle.serde_yaml.specs.TypedReads.{Makes, no_schema}

-- What documents give, read under a shape of the table within limits, once the merge keys of the first are treated: the
-- fault for which it is refused then, or what it gives, unless others follow. Without documents the stream is at its
-- end.
pub data TreatedGives (limits : PlainLimits) (table : List PlainShape) (s : PlainShape) (merge : Merge)
    : List PlainDocument → Result PlainData Cause → Type 0 where
  no_document : TreatedGives limits table s merge [] (Err EndOfStream)
  untreated : {document : PlainDocument} {others : List PlainDocument} {cause : Cause}
      → IsUntreated merge document cause → TreatedGives limits table s merge (document ∷ others) (Err cause)
  treated : {document kept : PlainDocument} {others : List PlainDocument} {found : Result PlainData Cause}
      → IsTreated merge document kept → kept.ending ≡ document.ending → DocumentGives limits table s kept found
      → TreatedGives limits table s merge (document ∷ others) (unless_more (some_follow others) found)

-- What documents give as a value of a type within limits, once the merge keys of the first are treated: what the type
-- makes of the data, or of the fault, that they give under the type's shape. A type that has no schema gives nothing.
pub data TreatedMakes (limits : PlainLimits) (start : Start) {T : Type 0} (built : PlainData → T → Type 0)
    (refused : PlainData → List ℕ → Type 0) (merge : Merge) (documents : List PlainDocument)
    : Result T Cause → Type 0 where
  no_shape : 4096 < length start.0 → TreatedMakes limits start built refused merge documents (Err no_schema)
  of_shape : {s : PlainShape} {read : Result PlainData Cause} {given : Result T Cause}
      → IsValidSchema start.0 → shape_at start.0 start.1 ≡ Some s
      → TreatedGives limits start.0 s merge documents read → Makes built refused read given
      → TreatedMakes limits start built refused merge documents given

-- the data of the text's one document, or its fault
abbrev pub GivesMerged : PlainLimits → List PlainShape → PlainShape → Merge → (text : List ℕ) → Result PlainData Cause
    → Type 0
GivesMerged limits table s merge text given =
    IsParsed text (λ events fault. TreatedGives limits table s merge (documents_of events fault) given)

-- the value of the text's one document, or its fault
abbrev pub GivesMergedValue : PlainLimits → Start → {T : Type 0} → (built : PlainData → T → Type 0)
    → (refused : PlainData → List ℕ → Type 0) → Merge → (text : List ℕ) → Result T Cause → Type 0
GivesMergedValue limits start built refused merge text given = IsParsed text (λ events fault.
    TreatedMakes limits start built refused merge (documents_of events fault) given)

-- the same of the text's events without what they show of it
abbrev pub GivesMergedOwn : PlainLimits → Start → {T : Type 0} → (built : PlainData → T → Type 0)
    → (refused : PlainData → List ℕ → Type 0) → Merge → (text : List ℕ) → Result T Cause → Type 0
GivesMergedOwn limits start built refused merge text given = IsParsed text (λ events fault.
    TreatedMakes limits start built refused merge (documents_of (events_alone events) fault) given)

-- What an input gives as a value of a type within limits, once the merge keys of its first document are treated: a list
-- of events that is no stream is refused with the least place that is wrong; else what the type makes of its documents.
pub data InputMakes (limits : PlainLimits) (start : Start) {T : Type 0} (built : PlainData → T → Type 0)
    (refused : PlainData → List ℕ → Type 0) (merge : Merge) (input : Input) (fault : Option PlainFault)
    : Result T Cause → Type 0 where
  no_stream : (place : ℕ) → IsWrongAt (is_some fault) (events_in input) place
      → InputMakes limits start built refused merge input fault (Err (NotAStream place))
  a_stream : {given : Result T Cause} → TreatedMakes limits start built refused merge (documents_of input fault) given
      → InputMakes limits start built refused merge input fault given

-- the fault of the text's one document, of its events without what they show of it
abbrev pub RefusesMergedOwn : PlainLimits → Start → {T : Type 0} → (built : PlainData → T → Type 0)
    → (refused : PlainData → List ℕ → Type 0) → Merge → (text : List ℕ) → Cause → Type 0
RefusesMergedOwn limits start built refused merge text cause = IsParsed text (λ events fault.
    InputMakes limits start built refused merge (events_alone events) fault (Err cause))

-- What comes of comparing values with what is read where they were written, whether they fit or not.
use Rattle.std.specs.Prelude.{◌≡◌, ◌<◌, ℕ, Bool, true, false, List, [], ◌∷◌, length, Option, None, Some, Result, Ok}
use Rattle.std.specs.Prelude.{Err}
use Rattle.yaml_base.specs.EmitEvents.{PlainEmit}
use Rattle.yaml_base.specs.PlainDocument.{PlainDocument}
use Rattle.yaml_base.specs.PlainFault.{PlainFault}
use Rattle.yaml_base.specs.Renders.{Renders}
use Rattle.yaml_base.specs.declared.error.Cause.{Cause}
use Rattle.yaml_base.specs.declared.error.Cause.TheVariants.{Custom}
use Rattle.yaml_documents.specs.TextDocuments.{AreDocumentsOf}
use Rattle.yaml_read.specs.Documents.{Input}
use Rattle.yaml_read.specs.MarkedEvents.{events_in}
use Rattle.yaml_read.specs.Reads.{DocumentGives}
use Rattle.yaml_read.specs.TreeReader.{PlainLimits}
use Rattle.yaml_shape.specs.PlainData.{PlainData}
use Rattle.yaml_shape.specs.PlainShape.{PlainShape, shape_at}
use Rattle.yaml_types.specs.Start.{Start}
use Rattle.serde_yaml.specs.TypedReads.{Makes, TypeGives, no_schema}

-- Why a value has no data: its type has no schema, or a message refuses to write it.
pub data HasNoData (start : Start) (unwritten : List ℕ → Type 0) : Cause → Type 0 where
  no_type : 4096 < length start.0 → HasNoData start unwritten no_schema
  no_value : (message : List ℕ) → unwritten message → HasNoData start unwritten (Custom message None)

-- whether the value that was read is equal to another; a fault stays
abbrev pub equals : {T : Type 0} → (eq : T → T → Bool) → T → Result T Cause → Result Bool Cause
equals eq x (Ok y) = Ok (eq x y)
equals eq x (Err cause) = Err cause

-- whether what an input gives as a value of a type is equal to a value, or the fault of reading it
abbrev pub ComparesInput : PlainLimits → Start → {T : Type 0} → (built : PlainData → T → Type 0)
    → (refused : PlainData → List ℕ → Type 0) → (eq : T → T → Bool) → T → Input → Option PlainFault
    → Result Bool Cause → Type 0
ComparesInput limits start {T} built refused eq x input fault given =
    (read : Result T Cause) × TypeGives limits start built refused input fault read × (given ≡ equals eq x read)

-- What comes of writing a value, and of reading what a parser may say of the events: the fault of writing it, or
-- whether what is read is equal to it, or the fault of reading.
pub data Compares (limits : PlainLimits) (Writes : Result (List PlainEmit) Cause → Type 0) (start : Start)
    {T : Type 0} (built : PlainData → T → Type 0) (refused : PlainData → List ℕ → Type 0) (eq : T → T → Bool) (x : T)
    : Result Bool Cause → Type 0 where
  not_written : {cause : Cause} → Writes (Err cause) → Compares limits Writes start built refused eq x (Err cause)
  is_read : (events : List PlainEmit) (input : Input) {given : Result Bool Cause} → Writes (Ok events)
      → Renders events (events_in input) → ComparesInput limits start built refused eq x input None given
      → Compares limits Writes start built refused eq x given

-- whether what the type makes of a document, read under the type's shape, is equal to a value, or the fault
abbrev pub ComparesDocument : PlainLimits → Start → {T : Type 0} → (built : PlainData → T → Type 0)
    → (refused : PlainData → List ℕ → Type 0) → (eq : T → T → Bool) → T → PlainDocument → Result Bool Cause → Type 0
ComparesDocument limits start {T} built refused eq x document given =
    (s : PlainShape) × (read : Result PlainData Cause) × (made : Result T Cause) × (shape_at start.0 start.1 ≡ Some s)
    × DocumentGives limits start.0 s document read × Makes built refused read made × (given ≡ equals eq x made)

-- behind a value that is equal this holds, and else the answer is what was found of it
abbrev pub goes_on : (found given : Result Bool Cause) → (Rest : Type 0) → Type 0
goes_on (Ok true) given Rest = Rest
goes_on found given Rest = given ≡ found

-- Whether documents are as many as the values, and each makes one that is equal to its own. The first that makes
-- another one, or a fault, ends it.
abbrev pub ComparesEach : PlainLimits → Start → {T : Type 0} → (built : PlainData → T → Type 0)
    → (refused : PlainData → List ℕ → Type 0) → (eq : T → T → Bool) → List T → List PlainDocument
    → Result Bool Cause → Type 0
ComparesEach limits start built refused eq [] [] given = given ≡ Ok true
ComparesEach limits start built refused eq [] (document ∷ documents) given = given ≡ Ok false
ComparesEach limits start built refused eq (x ∷ xs) [] given = given ≡ Ok false
ComparesEach limits start built refused eq (x ∷ xs) (document ∷ documents) given =
    (found : Result Bool Cause) × ComparesDocument limits start built refused eq x document found
    × goes_on found given (ComparesEach limits start built refused eq xs documents given)

-- the same of the documents of a text; a type that has no schema is compared with none
pub data ComparesText (limits : PlainLimits) (start : Start) {T : Type 0} (built : PlainData → T → Type 0)
    (refused : PlainData → List ℕ → Type 0) (eq : T → T → Bool) (xs : List T) (text : List ℕ)
    : Result Bool Cause → Type 0 where
  untyped : 4096 < length start.0 → ComparesText limits start built refused eq xs text (Err no_schema)
  in_turn : (documents : List PlainDocument) {given : Result Bool Cause} → AreDocumentsOf text documents
      → ComparesEach limits start built refused eq xs documents given
      → ComparesText limits start built refused eq xs text given

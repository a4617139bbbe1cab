-- How what was written stands in its text, and which events a reader may find there.
use Rattle.std.specs.Prelude.{◌≡◌, ℕ, Bool, true, IsTrue, List, Option, None, Result, Ok}
use Rattle.yaml_base.specs.EmitEvents.{PlainEmit}
use Rattle.yaml_base.specs.PlainFault.{PlainFault}
use Rattle.yaml_base.specs.declared.error.Cause.{Cause}
use Rattle.yaml_grammar.specs.Documents.{Stands}
use Rattle.yaml_grammar.specs.Nodes.{Document, events_of}
use Rattle.yaml_printed.specs.Printable.{StandsFor}
use Rattle.yaml_printed.specs.WrittenRoots.{FitsText}
use Rattle.yaml_read.specs.Documents.{Input}
use Rattle.yaml_read.specs.MarkedEvents.{events_in}
use Rattle.yaml_read.specs.TreeReader.{PlainLimits}
use Rattle.yaml_round.specs.Fits.{Fits}
use Rattle.yaml_round.specs.SameOrder.{same_data}
use Rattle.yaml_shape.specs.Held.{IsHeld, is_table}
use Rattle.yaml_shape.specs.PlainData.{PlainData}
use Rattle.yaml_shape.specs.PlainShape.{PlainShape}
use Rattle.yaml_types.specs.Start.{Start}
use Rattle.serde_yaml.specs.Printed.{HasText}
use Rattle.serde_yaml.specs.StreamReads.{InputGives}
use Rattle.serde_yaml.specs.TextReads.{IsParsed}
use Rattle.serde_yaml.specs.TypedReads.{TypeGives}
use Rattle.serde_yaml.specs.TypedWrites.{TypeWrites}

-- It was written as some events, and the text has documents by the grammar, whose events are what those may come back
-- as.
pub record StandsAsWritten (Writes : Result (List PlainEmit) Cause → Type 0) (text : List ℕ) : Type 0 where
  pub events : List PlainEmit
  pub writes : Writes (Ok events)
  pub stands : StandsFor events text

-- documents stand in the text, and these are their events, with any marks
pub record AreEventsOf (text : List ℕ) (input : Input) : Type 0 where
  pub documents : List Document
  pub stand : Stands text documents
  pub same : events_in input ≡ events_in (events_of text documents)

-- A parser takes what stands in the text: where documents do, it met no fault, and these are their events.
pub record TakesWhatStands (text : List ℕ) (input : Input) (fault : Option PlainFault) : Type 0 where
  pub taken : (documents : List Document) → Stands text documents
      → (fault ≡ None) × (events_in input ≡ events_in (events_of text documents))

-- whatever documents stand in the text, a value that is equal to this one is read of their events
abbrev pub IsReadAsEqual : PlainLimits → Start → {T : Type 0} → (built : PlainData → T → Type 0)
    → (refused : PlainData → List ℕ → Type 0) → (eq : T → T → Bool) → T → (text : List ℕ) → Type 0
IsReadAsEqual limits start {T} built refused eq x text =
    (input : Input) (given : Result T Cause) → AreEventsOf text input
    → TypeGives limits start built refused input None given → (y : T) × (given ≡ Ok y) × (eq x y ≡ true)

-- A value whose data this is was written, and this is its text. It is so of each text that `to_string` answers, by its
-- clauses `text`, `kept`, `table` and `held`.
pub record IsTextOf (start : Start) (d : PlainData) (Kept : Type 0) (unwritten : List ℕ → Type 0) (text : List ℕ)
    : Type 0 where
  pub printed : HasText (TypeWrites start d unwritten) text
  pub kept : Kept
  pub table : IsTrue (is_table start.0)
  pub held : IsHeld d

-- data of the shape with a number fits its text, and the limit of nestings in which that is read
pub record FitsTextWithin (limits : PlainLimits) (table : List PlainShape) (id : ℕ) (d : PlainData) : Type 0 where
  pub text : FitsText table id d
  pub nestings : Fits limits.nesting table id d

-- Whatever a call answers that reads the text as a value of a type is a value equal to this one.
abbrev pub GivesEqual : PlainLimits → Start → {T : Type 0} → (built : PlainData → T → Type 0)
    → (refused : PlainData → List ℕ → Type 0) → (eq : T → T → Bool) → T → (text : List ℕ) → Type 0
GivesEqual limits start {T} built refused eq x text =
    (given : Result T Cause) → IsParsed text (λ events fault. TypeGives limits start built refused events fault given)
    → (y : T) × (given ≡ Ok y) × (eq x y ≡ true)

-- it is data that is equal to this, with its pairs in the same order
abbrev pub IsSameData : PlainData → Result PlainData Cause → Type 0
IsSameData d given = (found : PlainData) × (given ≡ Ok found) × IsTrue (same_data d found)

-- whatever a call answers that reads the text as data of a shape is data that is equal to this, with its pairs in order
abbrev pub GivesSameData : PlainLimits → List PlainShape → PlainShape → PlainData → (text : List ℕ) → Type 0
GivesSameData limits table s d text =
    (given : Result PlainData Cause) → IsParsed text (λ events fault. InputGives limits table s events fault given)
    → IsSameData d given

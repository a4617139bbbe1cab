-- What the documents of a text add to a tape.
use Rattle.std.specs.Prelude.{ℕ, List, [], ◌∷◌, ◌++◌, ◌≡◌, ◌≤◌, length, false, true}
use Rattle.yaml_base.specs.PlainEvent.{PlainEvent, document_end, document_start, stream_end, stream_start}
use Rattle.yaml_base.specs.Position.{Position}
use Rattle.yaml_direct.specs.Gaps.{begins_token}
use Rattle.yaml_direct.specs.Held.{IsUnnamed}
use Rattle.yaml_direct.specs.Standing.{earlier_of}
use Rattle.yaml_direct.specs.Tokens.{IsCounted}
use Rattle.yaml_direct.specs.declared.document.Documents.{Documents}
use Rattle.yaml_grammar.specs.Bytes.{is_text}
use Rattle.yaml_grammar.specs.Documents as grammar
use Rattle.yaml_grammar.specs.Documents.{Earlier, Stands, none}
use Rattle.yaml_grammar.specs.Gaps.{next}
use Rattle.yaml_grammar.specs.Nodes.{Document, documents_events, end_mark, events_of, mark}
use Rattle.yaml_tape.specs.Pushes.{marked_on}

-- the events that were read, each with its mark
abbrev pub told_by : Documents → List (PlainEvent × Position)
told_by documents = marked_on documents.reader.tape

-- the stream has begun, and its documents follow
pub record IsBegun (events : List (PlainEvent × Position)) : Type 0 where
  pub start : Position
  pub documents : List (PlainEvent × Position)
  pub all : events ≡ (stream_start, start) ∷ documents

-- a document more: its start, its events and its end
pub record AddsDocument (old new : List (PlainEvent × Position)) : Type 0 where
  pub start : Position
  pub nodes : List (PlainEvent × Position)
  pub end : Position
  pub added : new ≡ (old ++ (document_start, start) ∷ nodes) ++ (document_end, end) ∷ []

-- the end of the stream
pub record AddsEnd (old new : List (PlainEvent × Position)) : Type 0 where
  pub end : Position
  pub added : new ≡ old ++ (stream_end, end) ∷ []

-- a stream with its start, documents and its end
pub record IsWholeStream (events : List (PlainEvent × Position)) : Type 0 where
  pub start : Position
  pub documents : List (PlainEvent × Position)
  pub end : Position
  pub all : events ≡ (stream_start, start) ∷ documents ++ (stream_end, end) ∷ []

-- the events are those of the documents that stand in the text, and no others do
pub record SaysDocuments (text : List ℕ) (events : List (PlainEvent × Position)) : Type 0 where
  pub documents : List Document
  pub stand : Stands text documents
  pub only : (others : List Document) → Stands text others → others ≡ documents
  pub all : events ≡ events_of text documents

-- The documents of a text up to a place: with any that stand from there on, they stand in the text, and where any stand
-- in the text, some stand from there on.
pub record AreBefore (text : List ℕ) (earlier : Earlier) (i : ℕ) (documents : List Document) : Type 0 where
  pub stand : (ds : List Document) → grammar.Documents text earlier i ds
      → grammar.Documents text none (next text 0) (documents ++ ds)
  pub on : (ds : List Document) → grammar.Documents text none (next text 0) ds
      → (es : List Document) × grammar.Documents text earlier i es

-- These documents were read, each of a byte or more, and the next token stands behind them. Before the first a directive
-- may stand, as behind `...`.
pub record HasRead (d : Documents) (documents : List Document) : Type 0 where
  pub allowed : is_text d.reader.text.now ≡ true
  pub before : AreBefore d.reader.text.now (earlier_of d.begun d.ended) d.next documents
  pub unnamed : IsUnnamed d.reader
  pub counted : IsCounted d.reader d.next
  pub token : begins_token d.reader.text.now d.next ≡ true
  pub few : length documents ≤ d.next
  pub free : d.begun ≡ false → d.ended ≡ true

-- no document was read yet
pub record HasBegun (d : Documents) : Type 0 where
  pub read : HasRead d []
  pub told : told_by d ≡ (stream_start, mark d.reader.text.now 0) ∷ []

-- a document more was read, and its events were added
pub record ReadsDocument (old new : Documents) (documents : List Document) : Type 0 where
  pub document : Document
  pub read : HasRead new (documents ++ document ∷ [])
  pub added : told_by new ≡ told_by old ++ documents_events (document ∷ [])

-- the documents that were read are all that stand in the text, and its end was added
pub record EndsText (old new : Documents) (documents : List Document) : Type 0 where
  pub stand : Stands old.reader.text.now documents
  pub added : told_by new
      ≡ told_by old ++ (stream_end, end_mark old.reader.text.now 0 (length old.reader.text.now)) ∷ []

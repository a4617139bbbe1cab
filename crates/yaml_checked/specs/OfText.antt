-- Events that are those of the documents that stand in a text.
use Rattle.std.specs.Prelude.{◌≡◌, ◌∷◌, ◌++◌, ◌<◌, ◌^◌, List, None, Option, Some, length, true, ℕ}
use Rattle.yaml_base.specs.MarkedEvents.{plain_marked}
use Rattle.yaml_base.specs.PlainEvent.{stream_start}
use Rattle.yaml_checked.specs.PlainTape.{PlainTape}
use Rattle.yaml_checked.specs.declared.place.Refusal.{Refusal}
use Rattle.yaml_checked.specs.declared.place.Refusal.TheVariants.{OutOfMemory}
use Rattle.yaml_direct.specs.Documents.{HasRead, SaysDocuments, told_by}
use Rattle.yaml_direct.specs.declared.document.Documents.{Documents}
use Rattle.yaml_grammar.specs.Bytes.{is_text}
use Rattle.yaml_grammar.specs.Documents.{Stands}
use Rattle.yaml_grammar.specs.Nodes.{Document, Marked, documents_events, events_of, mark}
use Rattle.yaml_reading.specs.Refused.{NothingStands}
use Rattle.yaml_tape.specs.Pushes.{marked_on}
use Rattle.yaml_tape.specs.declared.tape.Tape.{Tape}

-- the start of the stream of a text and these documents
abbrev pub begun_of : List ℕ → List Document → List Marked
begun_of text documents = (stream_start, mark text 0) ∷ documents_events documents

-- Documents of the text were read, and these are their events but for those that are still held where they are read.
pub record AreReadOf (text : List ℕ) (events : List Marked) (d : Documents) : Type 0 where
  pub of_text : d.reader.text.now ≡ text
  pub documents : List Document
  pub read : HasRead d documents
  pub told : events ++ told_by d ≡ begun_of text documents

-- the events are those of these documents, or where more come, those of all that were read
abbrev pub AreAhead : List ℕ → List Document → List Marked → Option Documents → Type 0
AreAhead text documents events None = events ≡ events_of text documents
AreAhead text documents events (Some d) = AreReadOf text events d

-- an event was refused for want of memory alone, or none was, and those that were handed out and those on the tape are
-- those of these documents, as far as they were read
abbrev pub GoesOn : PlainTape → List Document → Option Refusal → Type 0
GoesOn p documents None = AreAhead p.text documents (plain_marked p.given ++ p.ahead) p.documents
GoesOn p documents (Some refusal) = refusal ≡ OutOfMemory

-- Where documents stand in the text, their events are handed out.
abbrev pub IsOfText : PlainTape → Type 0
IsOfText p = (documents : List Document) → Stands p.text documents → GoesOn p documents p.refused

-- The direct parser may leave the text: no documents stand in it, or it has 2^32 bytes.
abbrev pub MayBeLeft : List ℕ → Type 0
MayBeLeft text = length text < 2 ^ 32 → NothingStands text

-- where documents stand in the text, these are their events
abbrev pub AreTextsOwn : List ℕ → List Marked → Type 0
AreTextsOwn text events = (documents : List Document) → Stands text documents → events ≡ events_of text documents

-- of a text of the grammar's characters the tape says the documents that stand in it
abbrev pub SaysText : Tape → Type 0
SaysText t = is_text t.text.now ≡ true → SaysDocuments t.text.now (marked_on t)

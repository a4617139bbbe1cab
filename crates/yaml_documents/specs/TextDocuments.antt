-- What a text stands for: what the events stand for that a parser makes of it.
use Rattle.std.specs.Prelude.{◌≡◌, List, ℕ, Option}
use Rattle.yaml_base.specs.MarkedEvents.{plain_marked}
use Rattle.yaml_base.specs.PlainDocument.{PlainDocument}
use Rattle.yaml_base.specs.PlainFault.{PlainFault}
use Rattle.yaml_base.specs.Position.{Position}
use Rattle.yaml_base.specs.declared.event.Event.{Event}
use Rattle.yaml_documents.specs.TextEvents.{AreParsed, AreRead}
use Rattle.yaml_read.specs.Documents.{Input, documents_of}

-- The text was parsed to events and, if the parser met one, to a fault, and this holds of the two.
pub record IsParsed (text : List ℕ) (Holds : Input → Option PlainFault → Type 0) : Type 0 where
  pub events : List (Event × Position)
  pub fault : Option PlainFault
  pub parsed : AreParsed text events fault
  pub holds : Holds (plain_marked events) fault

-- the documents of a text: those of its events and of its fault
abbrev pub AreDocumentsOf : List ℕ → List PlainDocument → Type 0
AreDocumentsOf text documents = IsParsed text (λ events fault. documents ≡ documents_of events fault)

-- The same of events of which is not known that they are those of the documents that stand in the text.
pub record IsRead (text : List ℕ) (Holds : Input → Option PlainFault → Type 0) : Type 0 where
  pub events : List (Event × Position)
  pub fault : Option PlainFault
  pub read : AreRead text events fault
  pub holds : Holds (plain_marked events) fault

-- documents of a text: those of such events and of their fault
abbrev pub AreReadDocumentsOf : List ℕ → List PlainDocument → Type 0
AreReadDocumentsOf text documents = IsRead text (λ events fault. documents ≡ documents_of events fault)

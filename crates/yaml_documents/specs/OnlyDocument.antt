-- A tape with the stream of one document, and events with one.
use Rattle.std.specs.Prelude.{◌+◌, ◌++◌, ◌∷◌, ◌≡◌, [], None, Option, Some, length, map, slice_get, ℕ}
use Rattle.yaml_base.specs.DocTree.{DocNode, IsTreeOf, events_of}
use Rattle.yaml_base.specs.PlainDocument.{PlainDocument}
use Rattle.yaml_base.specs.PlainFault.{PlainFault}
use Rattle.yaml_read.specs.Documents.{Input, documents_of}
use Rattle.yaml_tape.specs.OnDocs.{docs_from}
use Rattle.yaml_tape.specs.declared.entry.Entry.{Entry}
use Rattle.yaml_tape.specs.declared.entry.EntryKind.{EntryKind}
use Rattle.yaml_tape.specs.declared.entry.EntryKind.TheVariants as kind
use Rattle.yaml_tape.specs.declared.tape.Tape.{Tape}

-- an entry of this kind stands in a place
abbrev pub HasKind : Tape → ℕ → EntryKind → Type 0
HasKind t place k = (e : Entry) × (slice_get t.entries.items place ≡ Some e) × (e.kind ≡ k)

-- the entries are the start of the stream and of a document, the events of a node with no alias among them, and the
-- ends of the document and of the stream
pub record IsOnlyDocument (t : Tape) (root : DocNode) : Type 0 where
  pub end : ℕ
  pub stream : HasKind t 0 kind.StreamStart
  pub document : HasKind t 1 kind.DocumentStart
  pub node : docs_from t 2 ≡ map Some (events_of root) ++ docs_from t end
  pub document_end : HasKind t end kind.DocumentEnd
  pub stream_end : HasKind t (end + 1) kind.StreamEnd
  pub last : length t.entries.items ≡ end + 2

-- the events of a text are those of one document, with this tree, and the parser met no fault
abbrev pub HasOneDocument : DocNode → Input → Option PlainFault → Type 0
HasOneDocument root input fault = (fault ≡ None)
    × ((document : PlainDocument) × ((documents_of input None ≡ document ∷ []) × IsTreeOf document root))

-- What the events of a serializer are: a stream's start, whole documents, and the beginnings of the open collections.
use Rattle.std.specs.Prelude.{◌≡◌, ℕ, zero, suc, ◌+◌, List, [], ◌∷◌, ◌++◌, length, Bool, false, not, ◌&&◌, Option}
use Rattle.yaml_base.specs.EmitEvents.{PlainEmit, emit_stream_start, emit_document_start}
use Rattle.yaml_base.specs.EmitTree.{EmitNode, emit_node_events, emit_documents_events}
use Rattle.yaml_write.specs.Collections.{CollectionKind, OpenCollection}
use Rattle.yaml_write.specs.Writing.{Writing, is_mapping, start_of}

-- a collection that is open: its kind, its tag, and the nodes that are whole in it
pub record Begun : Type 0 where
  pub kind : CollectionKind
  pub tag : Option (List ℕ)
  pub nodes : List EmitNode

-- the events of nodes, one after another
abbrev pub row_events : List EmitNode → List PlainEmit
row_events [] = []
row_events (node ∷ nodes) = emit_node_events node ++ row_events nodes

-- the events of the beginning of a collection
abbrev pub beginning_events : Begun → List PlainEmit
beginning_events b = start_of b.kind b.tag ∷ row_events b.nodes

-- the events of the beginning of a document: its start, and the beginnings of collections, the innermost first
abbrev pub document_beginning : List Begun → List PlainEmit
document_beginning [] = emit_document_start ∷ []
document_beginning (b ∷ outer) = document_beginning outer ++ beginning_events b

-- the events that open collections have, if any is open
abbrev pub begun_events : List Begun → List PlainEmit
begun_events [] = []
begun_events (b ∷ outer) = document_beginning (b ∷ outer)

-- the number is odd
abbrev pub is_odd : ℕ → Bool
is_odd zero = false
is_odd (suc n) = not (is_odd n)

-- the collection, as a serializer has it open; so many nodes more have begun in it
abbrev pub as_opened : (more : ℕ) → Begun → OpenCollection
as_opened more b = record { kind = b.kind; awaits_value = is_mapping b.kind && is_odd (length b.nodes + more) }

-- The same of collections inside one another, the innermost first. In each but the innermost one has begun that isn't
-- whole.
abbrev pub open_all : (more : ℕ) → List Begun → List OpenCollection
open_all more [] = []
open_all more (b ∷ outer) = as_opened more b ∷ open_all 1 outer

-- what a serializer holds: a stream's start, these whole documents, and the beginnings of these open collections
abbrev pub writing_of : (documents : List EmitNode) → (collections : List Begun) → Writing
writing_of documents collections = record {
  events = emit_stream_start ∷ (emit_documents_events documents ++ begun_events collections);
  opened = open_all 0 collections;
}

-- it holds nothing else
abbrev pub IsBegun : Writing → Type 0
IsBegun w = (documents : List EmitNode) × (collections : List Begun) × (w ≡ writing_of documents collections)

-- a stream's start, and whole documents of one node each
abbrev pub AreDocuments : List PlainEmit → Type 0
AreDocuments events = (documents : List EmitNode) × (events ≡ emit_stream_start ∷ emit_documents_events documents)

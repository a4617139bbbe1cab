-- Nodes with the marks of their events, and these events.
use Rattle.std.specs.Prelude.{ℕ, ◌+◌, not, ◌==◌, ◌&&◌, if◌then◌else◌, List, [], ◌∷◌, ◌++◌, Some}
use Rattle.std.specs.Prelude.{length, nat_le, slice_range}
use Rattle.yaml_base.specs.Places.{place_of}
use Rattle.yaml_base.specs.PlainEvent.{PlainEvent, PlainScalar, stream_start, stream_end, document_start, document_end}
use Rattle.yaml_base.specs.PlainEvent.{sequence_start, sequence_end, mapping_start, mapping_end}
use Rattle.yaml_base.specs.PlainEvent as event
use Rattle.yaml_base.specs.Position.{Position}
use Rattle.yaml_base.specs.declared.event.ScalarStyle.{ScalarStyle}
use Rattle.yaml_base.specs.declared.event.ScalarStyle.TheVariants as style
use Rattle.yaml_grammar.specs.Names.{Names}

-- each node has the mark where it begins, and a collection the one where it ends
mutual
  pub data Node : Type 0 where
    alias : (start : Position) → (anchor : List ℕ) → Node
    scalar : (start : Position) → PlainScalar → Node
    sequence : (start : Position) → Names → Nodes → (end : Position) → Node
    mapping : (start : Position) → Names → Pairs → (end : Position) → Node

  pub data Nodes : Type 0 where
    no_nodes : Nodes
    node : Node → Nodes → Nodes

  pub data Pairs : Type 0 where
    no_pairs : Pairs
    pair : (key value : Node) → Pairs → Pairs

-- a document: the marks of its start and its end, and its root
pub record Document : Type 0 where
  pub start : Position
  pub root : Node
  pub end : Position

-- the mark of a place
abbrev pub mark : List ℕ → ℕ → Position
mark text i = record { index = i; line = (place_of text i).0; column = (place_of text i).1 }

-- The mark where what stands in a column ends, before a token. A text that ends in a line without a line feed ends
-- behind that line, but for what stands further in.
abbrev pub end_mark : List ℕ → (column' i : ℕ) → Position
end_mark text c i =
    let place = place_of text i in
    if i == length text && (not (place.1 == 0) && nat_le c place.1) then
    record { index = i; line = place.0 + 1; column = 0 } else mark text i

-- a scalar that begins here, with what stands before it, and ends before a place
abbrev pub scalar_at : List ℕ → (i : ℕ) → Names → ScalarStyle → (said : List ℕ) → (end : ℕ) → Node
scalar_at text i names how said end =
    let source = slice_range text i end in
    scalar (mark text i)
    (record { anchor = names.anchor; tag = names.tag; text = said; style = how; source = Some source })

-- no content, from a mark on, with what stands before it and its source
abbrev pub no_content : (start : Position) → Names → (source : List ℕ) → Node
no_content start names source =
    scalar start
    (record { anchor = names.anchor; tag = names.tag; text = []; style = style.Plain; source = Some source })

-- an event beside its mark
abbrev pub Marked : Type 0
Marked = PlainEvent × Position

-- the events of a node
abbrev mutual
  pub node_events : Node → List Marked
  node_events (alias start anchor) = (event.alias anchor, start) ∷ []
  node_events (scalar start s) = (event.scalar s, start) ∷ []
  node_events (sequence start names nodes end) =
      (sequence_start names.anchor names.tag, start) ∷ (nodes_events nodes ++ (sequence_end, end) ∷ [])
  node_events (mapping start names pairs end) =
      (mapping_start names.anchor names.tag, start) ∷ (pairs_events pairs ++ (mapping_end, end) ∷ [])

  pub nodes_events : Nodes → List Marked
  nodes_events no_nodes = []
  nodes_events (node n nodes) = node_events n ++ nodes_events nodes

  pub pairs_events : Pairs → List Marked
  pairs_events no_pairs = []
  pairs_events (pair key value pairs) = node_events key ++ (node_events value ++ pairs_events pairs)

-- the events of documents
abbrev pub documents_events : List Document → List Marked
documents_events [] = []
documents_events (d ∷ ds) =
    (document_start, d.start) ∷ (node_events d.root ++ ((document_end, d.end) ∷ documents_events ds))

-- the events of a text with these documents
abbrev pub events_of : List ℕ → List Document → List Marked
events_of text documents =
    (stream_start, mark text 0) ∷ (documents_events documents ++ (stream_end, end_mark text 0 (length text)) ∷ [])

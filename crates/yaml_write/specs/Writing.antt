-- What a serializer holds: events, and the collections that are still open.
use Rattle.std.specs.Prelude.{ℕ, List, [], ◌∷◌, ◌++◌, Bool, true, false, not, ◌&&◌, Option}
use Rattle.yaml_base.specs.EmitEvents.{PlainEmit, emit_document_start, emit_document_end}
use Rattle.yaml_base.specs.EmitTree.{EmitNode, emit_node_events}
use Rattle.yaml_write.specs.Brackets.{start_by, end_by}
use Rattle.yaml_write.specs.Collections.{CollectionKind, map_kind, struct_kind, struct_variant_kind, OpenCollection}

-- the events so far, and the open collections, the innermost first
pub record Writing : Type 0 where
  pub events : List PlainEmit
  pub opened : List OpenCollection

-- the collection has keys and values
abbrev pub is_mapping : CollectionKind → Bool
is_mapping map_kind = true
is_mapping struct_kind = true
is_mapping struct_variant_kind = true
is_mapping _ = false

-- a collection as it is once a node in it has begun: in a mapping a key and a value take turns
abbrev pub turned : OpenCollection → OpenCollection
turned o = record { kind = o.kind; awaits_value = is_mapping o.kind && not o.awaits_value }

-- the open collections once a node in the innermost has begun
abbrev pub with_begun : List OpenCollection → List OpenCollection
with_begun [] = []
with_begun (o ∷ outer) = turned o ∷ outer

-- the start of a document, where nothing is open
abbrev pub document_start_in : List OpenCollection → List PlainEmit
document_start_in [] = emit_document_start ∷ []
document_start_in (o ∷ outer) = []

-- the end of a document, where nothing is open
abbrev pub document_end_in : List OpenCollection → List PlainEmit
document_end_in [] = emit_document_end ∷ []
document_end_in (o ∷ outer) = []

-- the events of a node, in a document of its own where nothing is open
abbrev pub part_events : List OpenCollection → EmitNode → List PlainEmit
part_events opened node = (document_start_in opened ++ emit_node_events node) ++ document_end_in opened

-- with one node more: a document of its own where nothing is open, else a part of the innermost collection
abbrev pub with_node : Writing → EmitNode → Writing
with_node w node = record { events = w.events ++ part_events w.opened node; opened = with_begun w.opened }

-- with two nodes more
abbrev pub with_both : Writing → EmitNode × EmitNode → Writing
with_both w p = with_node (with_node w p.0) p.1

-- the start of a collection
abbrev pub start_of : CollectionKind → (tag : Option (List ℕ)) → PlainEmit
start_of kind tag = start_by (is_mapping kind) tag

-- the end of a collection
abbrev pub end_of : CollectionKind → PlainEmit
end_of kind = end_by (is_mapping kind)

-- with a collection opened, in a document of its own where nothing was open
abbrev pub with_opened : Writing → CollectionKind → (tag : Option (List ℕ)) → Writing
with_opened w kind tag = record {
  events = w.events ++ (document_start_in w.opened ++ start_of kind tag ∷ []);
  opened = record { kind = kind; awaits_value = false } ∷ with_begun w.opened;
}

-- the end of the innermost collection, and of the document where no other is open
abbrev pub closing_events : List OpenCollection → List PlainEmit
closing_events [] = []
closing_events (o ∷ outer) = end_of o.kind ∷ document_end_in outer

-- the collections around the innermost
abbrev pub outer_of : List OpenCollection → List OpenCollection
outer_of [] = []
outer_of (o ∷ outer) = outer

-- with the innermost collection closed, and the document where nothing is left open
abbrev pub with_closed : Writing → Writing
with_closed w = record { events = w.events ++ closing_events w.opened; opened = outer_of w.opened }

-- The trees that documents are written from, and their events. Written trees have no aliases and no anchors.
use Rattle.std.specs.Prelude.{◌≡◌, ℕ, List, [], ◌∷◌, ◌++◌, Option}
use Rattle.yaml_base.specs.EmitEvents.{PlainEmit, emit_stream_start, emit_stream_end, emit_document_start}
use Rattle.yaml_base.specs.EmitEvents.{emit_document_end, emit_scalar, emit_sequence_start, emit_sequence_end}
use Rattle.yaml_base.specs.EmitEvents.{emit_mapping_start, emit_mapping_end}
use Rattle.yaml_base.specs.declared.emitter.AskedStyle.{AskedStyle}

-- a node to be written is a scalar, a list of nodes, or pairs of nodes
mutual
  pub data EmitNode : Type 0 where
    emit_scalar_node : (tag : Option (List ℕ)) → (text : List ℕ) → (style : AskedStyle) → EmitNode
    emit_sequence_node : (tag : Option (List ℕ)) → EmitNodes → EmitNode
    emit_mapping_node : (tag : Option (List ℕ)) → EmitPairs → EmitNode

  pub data EmitNodes : Type 0 where
    no_emit_nodes : EmitNodes
    emit_node : EmitNode → EmitNodes → EmitNodes

  pub data EmitPairs : Type 0 where
    no_emit_pairs : EmitPairs
    emit_pair : (key : EmitNode) → (value : EmitNode) → EmitPairs → EmitPairs

-- the events of a node: a collection is its start with its tag, its parts in order, and its end
abbrev mutual
  pub emit_node_events : EmitNode → List PlainEmit
  emit_node_events (emit_scalar_node tag text style) = emit_scalar tag text style ∷ []
  emit_node_events (emit_sequence_node tag nodes) =
      emit_sequence_start tag ∷ (emit_nodes_events nodes ++ emit_sequence_end ∷ [])
  emit_node_events (emit_mapping_node tag pairs) =
      emit_mapping_start tag ∷ (emit_pairs_events pairs ++ emit_mapping_end ∷ [])

  pub emit_nodes_events : EmitNodes → List PlainEmit
  emit_nodes_events no_emit_nodes = []
  emit_nodes_events (emit_node n nodes) = emit_node_events n ++ emit_nodes_events nodes

  pub emit_pairs_events : EmitPairs → List PlainEmit
  emit_pairs_events no_emit_pairs = []
  emit_pairs_events (emit_pair key value pairs) =
      emit_node_events key ++ (emit_node_events value ++ emit_pairs_events pairs)

-- the events of a document with this root
abbrev pub emit_document_events : EmitNode → List PlainEmit
emit_document_events root = emit_document_start ∷ (emit_node_events root ++ emit_document_end ∷ [])

-- the events of documents with these roots, one after another
abbrev pub emit_documents_events : List EmitNode → List PlainEmit
emit_documents_events [] = []
emit_documents_events (root ∷ roots) = emit_document_events root ++ emit_documents_events roots

-- the list is a whole stream to be written: its start, documents of one node each, and its end
abbrev pub IsEmitStream : List PlainEmit → Type 0
IsEmitStream events =
    (roots : List EmitNode) × (events ≡ emit_stream_start ∷ (emit_documents_events roots ++ emit_stream_end ∷ []))

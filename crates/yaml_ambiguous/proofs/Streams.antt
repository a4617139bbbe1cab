-- A stream to be written stays one, with quotes around its ambiguous texts.
use Rattle.std.proofs.Common.{◌≡◌, List, [], ◌∷◌, ◌++◌, refl, sym, ap, ◌∙◌, map}
use Rattle.std.proofs.lemmas.List.{map-append}
use Rattle.yaml_base.specs.EmitEvents.{PlainEmit, emit_stream_start, emit_stream_end, emit_document_start}
use Rattle.yaml_base.specs.EmitEvents.{emit_document_end, emit_sequence_start, emit_sequence_end}
use Rattle.yaml_base.specs.EmitEvents.{emit_mapping_start, emit_mapping_end}
use Rattle.yaml_base.specs.EmitTree.{EmitNode, emit_scalar_node, emit_sequence_node, emit_mapping_node}
use Rattle.yaml_base.specs.EmitTree.{EmitNodes, no_emit_nodes, emit_node, EmitPairs, no_emit_pairs, emit_pair}
use Rattle.yaml_base.specs.EmitTree.{emit_node_events, emit_nodes_events, emit_pairs_events, emit_document_events}
use Rattle.yaml_base.specs.EmitTree.{emit_documents_events, IsEmitStream}
use Rattle.yaml_ambiguous.specs.Ambiguous.{is_ambiguous}
use Rattle.yaml_ambiguous.specs.Quoting.{quoting, unambiguous}

abbrev mutual
  node : EmitNode → EmitNode
  node (emit_scalar_node tag text style) = emit_scalar_node tag text (quoting (is_ambiguous text) style)
  node (emit_sequence_node tag ns) = emit_sequence_node tag (nodes ns)
  node (emit_mapping_node tag ps) = emit_mapping_node tag (pairs ps)

  nodes : EmitNodes → EmitNodes
  nodes no_emit_nodes = no_emit_nodes
  nodes (emit_node n ns) = emit_node (node n) (nodes ns)

  pairs : EmitPairs → EmitPairs
  pairs no_emit_pairs = no_emit_pairs
  pairs (emit_pair key value ps) = emit_pair (node key) (node value) (pairs ps)

-- what is quoted part by part is quoted
joined : (xs ys : List PlainEmit) {us vs : List PlainEmit} → map unambiguous xs ≡ us → map unambiguous ys ≡ vs
    → map unambiguous (xs ++ ys) ≡ us ++ vs
joined xs ys {us} {vs} p q =
    map-append unambiguous xs ys ∙ (ap (λ l. l ++ map unambiguous ys) p ∙ ap (λ l. us ++ l) q)

mutual
  of_node : (n : EmitNode) → map unambiguous (emit_node_events n) ≡ emit_node_events (node n)
  of_node (emit_scalar_node tag text style) = refl
  of_node (emit_sequence_node tag ns) =
      ap (λ l. emit_sequence_start tag ∷ l) (joined (emit_nodes_events ns) (emit_sequence_end ∷ []) (of_nodes ns) refl)
  of_node (emit_mapping_node tag ps) =
      ap (λ l. emit_mapping_start tag ∷ l) (joined (emit_pairs_events ps) (emit_mapping_end ∷ []) (of_pairs ps) refl)

  of_nodes : (ns : EmitNodes) → map unambiguous (emit_nodes_events ns) ≡ emit_nodes_events (nodes ns)
  of_nodes no_emit_nodes = refl
  of_nodes (emit_node n ns) = joined (emit_node_events n) (emit_nodes_events ns) (of_node n) (of_nodes ns)

  of_pairs : (ps : EmitPairs) → map unambiguous (emit_pairs_events ps) ≡ emit_pairs_events (pairs ps)
  of_pairs no_emit_pairs = refl
  of_pairs (emit_pair key value ps) = joined (emit_node_events key) (emit_node_events value ++ emit_pairs_events ps) (of_node key)
      (joined (emit_node_events value) (emit_pairs_events ps) (of_node value) (of_pairs ps))

of_document : (root : EmitNode) → map unambiguous (emit_document_events root) ≡ emit_document_events (node root)
of_document root =
    ap (λ l. emit_document_start ∷ l) (joined (emit_node_events root) (emit_document_end ∷ []) (of_node root) refl)

of_documents : (roots : List EmitNode)
    → map unambiguous (emit_documents_events roots) ≡ emit_documents_events (map node roots)
of_documents [] = refl
of_documents (root ∷ roots) = joined (emit_document_events root) (emit_documents_events roots) (of_document root) (of_documents roots)

pub stays_stream : (events : List PlainEmit) → IsEmitStream events → IsEmitStream (map unambiguous events)
stays_stream events (roots, all) = (
  map node roots,
  ap (map unambiguous) all ∙ ap (λ l. emit_stream_start ∷ l)
      (joined (emit_documents_events roots) (emit_stream_end ∷ []) (of_documents roots) refl),
)

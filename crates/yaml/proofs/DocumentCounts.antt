-- How many documents begin in events: a stream in which one begins is one of one document.
use Rattle.std.specs.Prelude.{OnErr, OnOk}
use Rattle.std.proofs.Common.{◌≡◌, ℕ, ◌+◌, List, [], ◌∷◌, ◌++◌, length, arith, refl, sym, ap, ◌∙◌}
use Rattle.std.proofs.Common.{Result, Ok, Err}
use Rattle.std.proofs.lemmas.List.{append-nil}
use Rattle.yaml.specs.WrittenDocument.{IsTextOfDocuments, IsWrittenDocument, documents_begun}
use Rattle.yaml_base.specs.EmitEvents.{PlainEmit, emit_stream_start, emit_stream_end, emit_document_start}
use Rattle.yaml_base.specs.EmitEvents.{emit_document_end, emit_scalar, emit_sequence_start, emit_sequence_end}
use Rattle.yaml_base.specs.EmitEvents.{emit_mapping_start, emit_mapping_end}
use Rattle.yaml_base.specs.EmitTree.{EmitNode, EmitNodes, EmitPairs, emit_scalar_node, emit_sequence_node}
use Rattle.yaml_base.specs.EmitTree.{emit_mapping_node, no_emit_nodes, emit_node, no_emit_pairs, emit_pair}
use Rattle.yaml_base.specs.EmitTree.{emit_node_events, emit_nodes_events, emit_pairs_events, emit_document_events}
use Rattle.yaml_base.specs.EmitTree.{emit_documents_events, IsEmitStream}
use Rattle.yaml_base.specs.declared.error.Cause.{Cause}
use Rattle.yaml_emit.specs.StreamTexts.{IsStreamText}
use Rattle.yaml_write.specs.Adds.{Adds}

-- of events one behind the other, both count
begun-append : (xs ys : List PlainEmit) → documents_begun (xs ++ ys) ≡ documents_begun xs + documents_begun ys
begun-append [] ys = omega arith
begun-append (emit_document_start ∷ xs) ys = omega (arith, begun-append xs ys)
begun-append (emit_stream_start ∷ xs) ys = begun-append xs ys
begun-append (emit_stream_end ∷ xs) ys = begun-append xs ys
begun-append (emit_document_end ∷ xs) ys = begun-append xs ys
begun-append (emit_scalar tag text style ∷ xs) ys = begun-append xs ys
begun-append (emit_sequence_start tag ∷ xs) ys = begun-append xs ys
begun-append (emit_sequence_end ∷ xs) ys = begun-append xs ys
begun-append (emit_mapping_start tag ∷ xs) ys = begun-append xs ys
begun-append (emit_mapping_end ∷ xs) ys = begun-append xs ys

-- no document begins in a node
mutual
  node-begun : (n : EmitNode) → documents_begun (emit_node_events n) ≡ 0
  node-begun (emit_scalar_node tag text style) = refl
  node-begun (emit_sequence_node tag nodes) =
      omega (arith, begun-append (emit_nodes_events nodes) (emit_sequence_end ∷ []), nodes-begun nodes)
  node-begun (emit_mapping_node tag pairs) =
      omega (arith, begun-append (emit_pairs_events pairs) (emit_mapping_end ∷ []), pairs-begun pairs)

  nodes-begun : (ns : EmitNodes) → documents_begun (emit_nodes_events ns) ≡ 0
  nodes-begun no_emit_nodes = refl
  nodes-begun (emit_node n ns) =
      omega (arith, begun-append (emit_node_events n) (emit_nodes_events ns), node-begun n, nodes-begun ns)

  pairs-begun : (ps : EmitPairs) → documents_begun (emit_pairs_events ps) ≡ 0
  pairs-begun no_emit_pairs = refl
  pairs-begun (emit_pair key value ps) =
      omega (
        arith,
        begun-append (emit_node_events key) (emit_node_events value ++ emit_pairs_events ps),
        begun-append (emit_node_events value) (emit_pairs_events ps),
        node-begun key,
        node-begun value,
        pairs-begun ps,
      )

-- one begins in a document
document-begun : (root : EmitNode) → documents_begun (emit_document_events root) ≡ 1
document-begun root =
    omega (arith, begun-append (emit_node_events root) (emit_document_end ∷ []), node-begun root)

-- and as many in documents as there are
all-begun : (roots : List EmitNode) → documents_begun (emit_documents_events roots) ≡ length roots
all-begun [] = refl
all-begun (root ∷ roots) =
    omega (
      arith,
      begun-append (emit_document_events root) (emit_documents_events roots),
      document-begun root,
      all-begun roots,
    )

-- a stream of documents
pub stream-begun : (roots : List EmitNode)
    → documents_begun (emit_stream_start ∷ (emit_documents_events roots ++ emit_stream_end ∷ [])) ≡ length roots
stream-begun roots =
    omega (arith, begun-append (emit_documents_events roots) (emit_stream_end ∷ []), all-begun roots)

-- with one
one_of : (roots : List EmitNode) → length roots ≡ 1 → (root : EmitNode) × (roots ≡ root ∷ [])
one_of [] h = absurd (omega (arith, h))
one_of (root ∷ []) h = (root, refl)
one_of (root ∷ (other ∷ roots)) h = absurd (omega (arith, h))

pub one_document : (events : List PlainEmit) → IsEmitStream events → documents_begun events ≡ 1
    → IsWrittenDocument events
one_document events stream one =
    let count = sym (stream-begun stream.0) ∙ (ap documents_begun (sym stream.1) ∙ one) in
    let alone = one_of stream.0 count in (
      alone.0,
      stream.1
          ∙ (ap (λ roots. emit_stream_start ∷ (emit_documents_events roots ++ emit_stream_end ∷ [])) alone.1
          ∙ ap (λ es. emit_stream_start ∷ (es ++ emit_stream_end ∷ [])) (append-nil (emit_document_events alone.0))),
    )

-- a call that adds an event adds what begins there
pub event_counted : {A : Type 0} (e : PlainEmit) (old new : List PlainEmit) (result : Result A Cause)
    → Adds (λ (e : PlainEmit). e ∷ []) (Ok e) old new result
    → OnOk result (documents_begun new ≡ documents_begun old + documents_begun (e ∷ []))
event_counted e old new (Ok a) adds =
    let is : old ++ e ∷ [] ≡ new = cc in
    ap documents_begun (sym is) ∙ begun-append old (e ∷ [])
event_counted e old new (Err cause) adds = tt

-- and one that adds what begins no document leaves the count
pub uncounted : {A B : Type 0} (view : B → List PlainEmit) (part : B) (old new : List PlainEmit)
    (result : Result A Cause) → documents_begun (view part) ≡ 0 → Adds view (Ok part) old new result
    → OnErr result (new ≡ old) → documents_begun new ≡ documents_begun old
uncounted view part old new (Ok a) none adds stays =
    let is : old ++ view part ≡ new = cc in
    ap documents_begun (sym is) ∙ omega (arith, begun-append old (view part), none)
uncounted view part old new (Err cause) none adds stays = ap documents_begun stays

-- a node begins none
pub node_uncounted : {A : Type 0} (node : EmitNode) (old new : List PlainEmit) (result : Result A Cause)
    → Adds emit_node_events (Ok node) old new result → OnErr result (new ≡ old)
    → documents_begun new ≡ documents_begun old
node_uncounted node old new result = uncounted emit_node_events node old new result (node-begun node)

-- nor does the end of a stream
pub ended_count : (begun : ℕ) (out taken ended : List PlainEmit) → begun ≡ documents_begun out → taken ≡ out
    → ended ≡ taken ++ emit_stream_end ∷ [] → documents_begun ended ≡ begun
ended_count begun out taken ended count same end =
    ap documents_begun end
    ∙ omega (arith, begun-append taken (emit_stream_end ∷ []), ap documents_begun same, count)

-- the text of a stream in which so many documents begin
pub text_of : {n m : ℕ} {text : List ℕ} → n ≡ m
    → (events : List PlainEmit) × (documents_begun events ≡ n) × IsStreamText events text → IsTextOfDocuments m text
text_of same printed =
    record {
      roots = printed.2.roots;
      counted =
          sym (stream-begun printed.2.roots)
          ∙ (ap documents_begun (sym printed.2.stream) ∙ (printed.1 ∙ same));
      printed = printed.2.printed;
    }

-- one in which one begins
pub text_of_one : {n : ℕ} {text : List ℕ} → n ≡ 1
    → (events : List PlainEmit) × (documents_begun events ≡ n) × IsStreamText events text
    → (events : List PlainEmit) × IsWrittenDocument events × IsStreamText events text
text_of_one one printed = (
  printed.0,
  one_document printed.0 (printed.2.roots, printed.2.stream) (printed.1 ∙ one),
  printed.2,
)

-- and one of any number
pub text_of_stream : {n : ℕ} {text : List ℕ}
    → (events : List PlainEmit) × (documents_begun events ≡ n) × IsStreamText events text
    → (events : List PlainEmit) × IsEmitStream events × IsStreamText events text
text_of_stream printed = (printed.0, (printed.2.roots, printed.2.stream), printed.2)

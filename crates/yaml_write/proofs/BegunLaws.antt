-- What each call leaves is a beginning of a stream.
use Rattle.std.proofs.Common.{◌≡◌, ℕ, suc, ◌+◌, ◌++◌, ◌∷◌, [], List, length, length-append, Bool, true, false, not}
use Rattle.std.proofs.Common.{◌&&◌, Option, Result, Ok, Err, refl, sym, ap, ◌∙◌, arith, append_assoc, subst}
use Rattle.std.specs.Prelude.{if◌then◌else◌, option_to_list, map, Some, None}
use Rattle.std.proofs.lemmas.List.{append-nil, reverse-append}
use Rattle.yaml_base.specs.EmitEvents.{emit_stream_start, emit_document_start}
use Rattle.yaml_base.specs.EmitEvents.{emit_document_end, emit_sequence_start, emit_sequence_end, emit_mapping_start}
use Rattle.yaml_base.specs.EmitEvents.{emit_mapping_end}
use Rattle.yaml_base.specs.EmitTree.{EmitNode, EmitNodes, EmitPairs, emit_sequence_node, emit_mapping_node}
use Rattle.yaml_base.specs.EmitTree.{no_emit_nodes, emit_node, no_emit_pairs, emit_pair, emit_node_events}
use Rattle.yaml_base.specs.EmitTree.{emit_nodes_events, emit_pairs_events, emit_documents_events, emit_document_events}
use Rattle.yaml_base.specs.declared.error.Cause.{Cause}
use Rattle.yaml_write.specs.Begun.{Begun, row_events, beginning_events, document_beginning, is_odd, as_opened, open_all}
use Rattle.yaml_write.specs.Begun.{writing_of, IsBegun}
use Rattle.yaml_write.specs.CollectionView.{open_collection, open_collections}
use Rattle.yaml_write.specs.Collections.{CollectionKind}
use Rattle.yaml_write.specs.Outcomes.{Outcome, made}
use Rattle.yaml_write.specs.Opened.{CanEnd}
use Rattle.yaml_write.specs.Writing.{Writing, is_mapping, start_of, end_of, turned, with_node, with_both, with_opened}
use Rattle.yaml_write.specs.Writing.{with_closed, outer_of}
use Rattle.yaml_write.specs.declared.open.Open.{Open}

-- one document more
documents-more : (roots : List EmitNode) (root : EmitNode) → emit_documents_events (roots ++ root ∷ [])
    ≡ emit_documents_events roots ++ emit_document_events root
documents-more [] root = append-nil (emit_document_events root)
documents-more (r ∷ roots) root =
    ap (λ es. emit_document_events r ++ es) (documents-more roots root)
    ∙ sym (append_assoc (emit_document_events r) (emit_documents_events roots) (emit_document_events root))

-- one node more in a row
row-more : (nodes : List EmitNode) (node : EmitNode) → row_events (nodes ++ node ∷ [])
    ≡ row_events nodes ++ emit_node_events node
row-more [] node = append-nil (emit_node_events node)
row-more (n ∷ nodes) node =
    ap (λ es. emit_node_events n ++ es) (row-more nodes node)
    ∙ sym (append_assoc (emit_node_events n) (row_events nodes) (emit_node_events node))

-- the collection with one node more that is whole
pub with_whole : Begun → EmitNode → Begun
with_whole b node = record { kind = b.kind; tag = b.tag; nodes = b.nodes ++ node ∷ [] }

one-more : (nodes : List EmitNode) (node : EmitNode) → length (nodes ++ node ∷ []) + 0 ≡ length nodes + 1
one-more nodes node = omega (arith, length-append nodes (node ∷ []))

-- a node that has begun and is whole is one that is there
pub whole-open : (b : Begun) (node : EmitNode) → as_opened 0 (with_whole b node) ≡ as_opened 1 b
unfolding with_whole
whole-open b node = ap (λ n. record { kind = b.kind; awaits_value = is_mapping b.kind && is_odd n })
    (one-more b.nodes node)

turn : (mapping odd : Bool) → (mapping && not (mapping && odd)) ≡ (mapping && not odd)
turn true odd = refl
turn false odd = refl

-- a node begins
pub turned-open : (b : Begun) → turned (as_opened 0 b) ≡ as_opened 1 b
turned-open b =
    let n : length b.nodes + 1 ≡ suc (length b.nodes + 0) = omega arith in
    ap (λ a. record { kind = b.kind; awaits_value = a })
    (turn (is_mapping b.kind) (is_odd (length b.nodes + 0)) ∙ ap (λ m. is_mapping b.kind && is_odd m) (sym n))

-- the events of the beginning, with one node more
beginning-more : (b : Begun) (node : EmitNode) → beginning_events (with_whole b node)
    ≡ beginning_events b ++ emit_node_events node
unfolding with_whole
beginning-more b node = ap (λ es. start_of b.kind b.tag ∷ es) (row-more b.nodes node)

-- a node is placed
placed-as : (documents : List EmitNode) (collections : List Begun) (node : EmitNode)
    → IsBegun (with_node (writing_of documents collections) node)
placed-as documents [] node =
    let e : (emit_stream_start ∷ (emit_documents_events documents ++ []))
    ++ ((emit_document_start ∷ emit_node_events node) ++ emit_document_end ∷ [])
    ≡ emit_stream_start ∷ (emit_documents_events (documents ++ node ∷ []) ++ []) =
    ap (λ es. emit_stream_start ∷ es) (ap (λ es. es ++ emit_document_events node)
    (append-nil (emit_documents_events documents))
    ∙ (sym (documents-more documents node) ∙ sym (append-nil (emit_documents_events (documents ++ node ∷ []))))) in
    (documents ++ node ∷ [], [], λ k. record { events = e k; opened = [] })
placed-as documents (b ∷ outer) node =
    let all = emit_documents_events documents in
    let before = document_beginning outer in
    let e : (emit_stream_start ∷ (all ++ (before ++ beginning_events b))) ++ (emit_node_events node ++ [])
    ≡ emit_stream_start ∷ (all ++ (before ++ beginning_events (with_whole b node))) =
    ap (λ es. emit_stream_start ∷ es) (append_assoc all (before ++ beginning_events b) (emit_node_events node ++ [])
    ∙ (ap (λ es. all ++ es) (append_assoc before (beginning_events b) (emit_node_events node ++ [])
    ∙ ap (λ es. before ++ es) (ap (λ es. beginning_events b ++ es) (append-nil (emit_node_events node))
    ∙ sym (beginning-more b node))))) in
    let o : turned (as_opened 0 b) ≡ as_opened 0 (with_whole b node) = turned-open b ∙ sym (whole-open b node) in
    (documents, with_whole b node ∷ outer, λ k. record { events = e k; opened = o k ∷ open_all 1 outer })

-- a node is placed
pub placed : (w : Writing) (node : EmitNode) → IsBegun w → IsBegun (with_node w node)
placed w node h = subst (λ (v : Writing). IsBegun (with_node v node)) (sym h.2) (placed-as h.0 h.1 node)

-- the collection at its beginning
pub at_start : CollectionKind → Option (List ℕ) → Begun
at_start kind tag = record { kind = kind; tag = tag; nodes = [] }

never : (mapping : Bool) → false ≡ (mapping && false)
never true = refl
never false = refl

start-open : (kind : CollectionKind) (tag : Option (List ℕ)) → record { kind = kind; awaits_value = false }
    ≡ as_opened 0 (at_start kind tag)
unfolding at_start
start-open kind tag = ap (λ a. record { kind = kind; awaits_value = a }) (never (is_mapping kind))

start-events : (kind : CollectionKind) (tag : Option (List ℕ)) → beginning_events (at_start kind tag)
    ≡ start_of kind tag ∷ []
unfolding at_start
start-events kind tag = refl

opened-as : (documents : List EmitNode) (collections : List Begun) (kind : CollectionKind) (tag : Option (List ℕ))
    → IsBegun (with_opened (writing_of documents collections) kind tag)
opened-as documents [] kind tag =
    let all = emit_documents_events documents in
    let e : (emit_stream_start ∷ (all ++ [])) ++ (emit_document_start ∷ (start_of kind tag ∷ []))
    ≡ emit_stream_start ∷ (all ++ ((emit_document_start ∷ []) ++ beginning_events (at_start kind tag))) =
    ap (λ es. emit_stream_start ∷ es) (ap (λ es. es ++ (emit_document_start ∷ (start_of kind tag ∷ [])))
    (append-nil all)
    ∙ ap (λ es. all ++ (emit_document_start ∷ es)) (sym (start-events kind tag))) in
    (documents, at_start kind tag ∷ [], λ k. record { events = e k; opened = start-open kind tag k ∷ [] })
opened-as documents (b ∷ outer) kind tag =
    let all = emit_documents_events documents in
    let before = document_beginning outer ++ beginning_events b in
    let e : (emit_stream_start ∷ (all ++ before)) ++ ([] ++ start_of kind tag ∷ [])
    ≡ emit_stream_start ∷ (all ++ (before ++ beginning_events (at_start kind tag))) =
    ap (λ es. emit_stream_start ∷ es) (append_assoc all before (start_of kind tag ∷ [])
    ∙ ap (λ es. all ++ (before ++ es)) (sym (start-events kind tag))) in (
      documents,
      at_start kind tag ∷ b ∷ outer,
      λ k. record
          { events = e k; opened = start-open kind tag k ∷ turned-open b k ∷ open_all 1 outer },
    )

-- a collection is opened
pub opened : (w : Writing) (kind : CollectionKind) (tag : Option (List ℕ)) → IsBegun w
    → IsBegun (with_opened w kind tag)
opened w kind tag h = subst (λ (v : Writing). IsBegun (with_opened v kind tag)) (sym h.2) (opened-as h.0 h.1 kind tag)

-- nodes as the elements of a sequence
in_row : List EmitNode → EmitNodes
in_row [] = no_emit_nodes
in_row (n ∷ nodes) = emit_node n (in_row nodes)

in_row-events : (nodes : List EmitNode) → emit_nodes_events (in_row nodes) ≡ row_events nodes
unfolding in_row
in_row-events [] = refl
in_row-events (n ∷ nodes) = ap (λ es. emit_node_events n ++ es) (in_row-events nodes)

-- nodes as the keys and values of a mapping, by turns
paired : List EmitNode → EmitPairs
paired [] = no_emit_pairs
paired (k ∷ []) = no_emit_pairs
paired (k ∷ v ∷ nodes) = emit_pair k v (paired nodes)

not_not : (b : Bool) → not (not b) ≡ b
not_not true = refl
not_not false = refl

paired-events : (nodes : List EmitNode) → is_odd (length nodes) ≡ false → emit_pairs_events (paired nodes)
    ≡ row_events nodes
unfolding paired
paired-events [] h = refl
paired-events (k ∷ []) h = absurd (cc)
paired-events (k ∷ v ∷ nodes) h =
    ap (λ es. emit_node_events k ++ (emit_node_events v ++ es))
    (paired-events nodes (sym (not_not (is_odd (length nodes))) ∙ h))

-- the node that a collection is once it is closed
closing : (mapping : Bool) → Option (List ℕ) → List EmitNode → EmitNode
closing true tag nodes = emit_mapping_node tag (paired nodes)
closing false tag nodes = emit_sequence_node tag (in_row nodes)

closing-events : (mapping : Bool) (tag : Option (List ℕ)) (nodes : List EmitNode)
    → (mapping && is_odd (length nodes + 0)) ≡ false
    → emit_node_events (closing mapping tag nodes)
    ≡ (if mapping then emit_mapping_start tag else emit_sequence_start tag) ∷
    (row_events nodes ++ (if mapping then emit_mapping_end else emit_sequence_end) ∷ [])
unfolding closing
closing-events true tag nodes h =
    let n : length nodes + 0 ≡ length nodes = omega arith in
    ap (λ es. emit_mapping_start tag ∷ (es ++ emit_mapping_end ∷ [])) (paired-events nodes (ap is_odd (sym n) ∙ h))
closing-events false tag nodes h = ap (λ es. emit_sequence_start tag ∷ (es ++ emit_sequence_end ∷ []))
    (in_row-events nodes)

closed-as : (documents : List EmitNode) (collections : List Begun) → CanEnd (open_all 0 collections)
    → IsBegun (with_closed (writing_of documents collections))
closed-as documents [] h = absurd h
closed-as documents (b ∷ []) h =
    let all = emit_documents_events documents in
    let node = closing (is_mapping b.kind) b.tag b.nodes in
    let n = closing-events (is_mapping b.kind) b.tag b.nodes h in
    let e : (emit_stream_start ∷ (all ++ (emit_document_start ∷ beginning_events b)))
    ++ (end_of b.kind ∷ emit_document_end ∷ [])
    ≡ emit_stream_start ∷ (emit_documents_events (documents ++ node ∷ []) ++ []) =
    ap (λ es. emit_stream_start ∷ es) (append_assoc all (emit_document_start ∷ beginning_events b)
    (end_of b.kind ∷ emit_document_end ∷ [])
    ∙ (ap (λ es. all ++ (emit_document_start ∷ start_of b.kind b.tag ∷ es))
    (sym (append_assoc (row_events b.nodes) (end_of b.kind ∷ []) (emit_document_end ∷ [])))
    ∙ (ap (λ es. all ++ (emit_document_start ∷ (es ++ emit_document_end ∷ []))) (sym n)
    ∙ (sym (documents-more documents node) ∙ sym (append-nil (emit_documents_events (documents ++ node ∷ []))))))) in
    (documents ++ node ∷ [], [], λ k. record { events = e k; opened = [] })
closed-as documents (b ∷ c ∷ outer) h =
    let all = emit_documents_events documents in
    let before = document_beginning outer in
    let node = closing (is_mapping b.kind) b.tag b.nodes in
    let n = closing-events (is_mapping b.kind) b.tag b.nodes h in
    let inside : beginning_events b ++ end_of b.kind ∷ [] ≡ emit_node_events node = sym n in
    let e : (emit_stream_start ∷ (all ++ ((before ++ beginning_events c) ++ beginning_events b)))
    ++ (end_of b.kind ∷ [])
    ≡ emit_stream_start ∷ (all ++ (before ++ beginning_events (with_whole c node))) =
    ap (λ es. emit_stream_start ∷ es) (append_assoc all ((before ++ beginning_events c) ++ beginning_events b)
    (end_of b.kind ∷ [])
    ∙ ap (λ es. all ++ es) (append_assoc (before ++ beginning_events c) (beginning_events b) (end_of b.kind ∷ [])
    ∙ (ap (λ es. (before ++ beginning_events c) ++ es) inside
    ∙ (append_assoc before (beginning_events c) (emit_node_events node)
    ∙ ap (λ es. before ++ es) (sym (beginning-more c node)))))) in (
      documents,
      with_whole c node ∷ outer,
      λ k. record {
        events = e k;
        opened = sym (whole-open c node) k ∷ open_all 1 outer;
      },
    )

-- a collection is closed
pub closed : (w : Writing) → CanEnd w.opened → IsBegun w → IsBegun (with_closed w)
closed w can h =
    subst (λ (v : Writing). IsBegun (with_closed v)) (sym h.2)
    (closed-as h.0 h.1 (subst (λ (v : Writing). CanEnd v.opened) h.2 can))

-- two nodes are placed
pub placed-made : (w new : Writing) (given : Result (EmitNode × EmitNode) Cause) → IsBegun w → made (with_both w) given
    ≡ Ok new → IsBegun new
placed-made w new (Err c) h e = absurd (cc)
placed-made w new (Ok p) h e =
    let is : with_both w p ≡ new = cc in
    subst IsBegun is (placed (with_node w p.0) p.1 (placed w p.0 h))

-- a node is placed
pub node-made : (w new : Writing) (given : Outcome) → IsBegun w → made (with_node w) given ≡ Ok new → IsBegun new
node-made w new (Err c) h e = absurd (cc)
node-made w new (Ok node) h e = subst IsBegun (let is : with_node w node ≡ new = cc in is) (placed w node h)

-- nothing is open at first
pub at_first : IsBegun (record { events = emit_stream_start ∷ []; opened = [] })
at_first = ([], [], refl)

none_there : (os : List Open) → length (os ++ []) ≡ 0 → outer_of (open_collections (os ++ [])) ≡ open_collections os
none_there [] h = refl
none_there (o ∷ os) h = absurd (omega arith)

-- the innermost collection is gone, if there was one
pub last_gone : (old new : List Open) (taken : Option Open) → old ≡ new ++ option_to_list taken
    → (taken ≡ None → length old ≡ 0)
    → outer_of (open_collections old) ≡ open_collections new
last_gone old new (Some o) e h =
    ap (λ os. outer_of (open_collections os)) e
    ∙ ap (λ os. outer_of (map open_collection os)) (reverse-append new (o ∷ []))
last_gone old new None e h =
    ap (λ os. outer_of (open_collections os)) e ∙ none_there new (ap length (sym e) ∙ h refl)

-- Events that are printed to their end are a stream, and no stream is refused.
use Rattle.std.proofs.Common.{◌≡◌, ℕ, Bool, true, false, List, [], ◌∷◌, ◌++◌, append_assoc, Option, Some, None}
use Rattle.std.proofs.Common.{refl, sym, ap, ◌∙◌, subst, unwrap_or}
use Rattle.std.specs.Option.{option_map}
use Rattle.yaml_base.specs.EmitEvents.{PlainEmit, emit_stream_start, emit_stream_end, emit_document_start}
use Rattle.yaml_base.specs.EmitEvents.{emit_document_end, emit_scalar, emit_sequence_start, emit_sequence_end}
use Rattle.yaml_base.specs.EmitEvents.{emit_mapping_start, emit_mapping_end}
use Rattle.yaml_base.specs.EmitTree.{EmitNode, emit_scalar_node, emit_sequence_node, emit_mapping_node}
use Rattle.yaml_base.specs.EmitTree.{EmitNodes, no_emit_nodes, emit_node, EmitPairs, no_emit_pairs, emit_pair}
use Rattle.yaml_base.specs.EmitTree.{emit_node_events, emit_nodes_events, emit_pairs_events, emit_documents_events}
use Rattle.yaml_base.specs.EmitTree.{IsEmitStream}
use Rattle.yaml_emit.specs.LayoutMachine.{LayoutState, before_stream, between_documents, before_root, within}
use Rattle.yaml_emit.specs.LayoutMachine.{after_stream}
use Rattle.yaml_emit.specs.LayoutMachine.{Laid, unbegun, printed_from, step, with_node_text, closed_in, closes}
use Rattle.yaml_emit.specs.LayoutMachine.{in_state_if}
use Rattle.yaml_emit.specs.LayoutMachine.{document_begun, document_ended, stream_begun, stream_ended, finished}
use Rattle.yaml_emit.specs.LayoutMachine.{begun_from, next_awaits, with_collection, with_text}
use Rattle.yaml_emit.specs.StreamTexts.{IsStreamText, is_simple_key, node_text, stream_text, tag_or_empty}
use Rattle.yaml_emit.specs.declared.open.Awaits.{Awaits}
use Rattle.yaml_emit.specs.declared.open.Awaits.TheVariants.{Item, Key, Value, FarValue}
use Rattle.yaml_emit.specs.declared.open.Open.{Open}
use Rattle.yaml_emit.proofs.TreeTexts.{document_then, prints_stream}

-- what may follow in a collection that awaits this, where such lists may follow its end
abbrev Closing : Awaits → (List PlainEmit → Type 0) → List PlainEmit → Type 0
Closing Item After es = (nodes : EmitNodes) × (rest : List PlainEmit)
    × (es ≡ emit_nodes_events nodes ++ (emit_sequence_end ∷ rest)) × After rest
Closing Key After es = (pairs : EmitPairs) × (rest : List PlainEmit)
    × (es ≡ emit_pairs_events pairs ++ (emit_mapping_end ∷ rest)) × After rest
Closing Value After es = (value : EmitNode) × (pairs : EmitPairs) × (rest : List PlainEmit)
    × (es ≡ emit_node_events value ++ (emit_pairs_events pairs ++ (emit_mapping_end ∷ rest))) × After rest
Closing FarValue After es = (value : EmitNode) × (pairs : EmitPairs) × (rest : List PlainEmit)
    × (es ≡ emit_node_events value ++ (emit_pairs_events pairs ++ (emit_mapping_end ∷ rest))) × After rest

-- what may follow where collections are open, the innermost first
abbrev Closes : List Open → List PlainEmit → Type 0
Closes [] es = (roots : List EmitNode)
    × (es ≡ emit_document_end ∷ (emit_documents_events roots ++ emit_stream_end ∷ []))
Closes (o ∷ outer) es = Closing o.awaits (Closes outer) es

abbrev Follows : LayoutState → List PlainEmit → Type 0
Follows before_stream es = IsEmitStream es
Follows between_documents es = (roots : List EmitNode) × (es ≡ emit_documents_events roots ++ emit_stream_end ∷ [])
Follows before_root es =
    (root : EmitNode) × (rest : List PlainEmit) × (es ≡ emit_node_events root ++ rest) × Closes [] rest
Follows (within opened) es = Closes opened es
Follows after_stream es = es ≡ []

abbrev FollowsSome : Option Laid → List PlainEmit → Type 0
FollowsSome None es = ⊥
FollowsSome (Some s) es = Follows s.state es

-- a node is the next part of a collection
part_first : (awaits : Awaits) (simple : Bool) (After : List PlainEmit → Type 0) (n : EmitNode) (es : List PlainEmit)
    → Closing (next_awaits awaits simple) After es → Closing awaits After (emit_node_events n ++ es)
part_first Item simple After n es h = (
  emit_node n h.0,
  h.1,
  ap (λ r. emit_node_events n ++ r) h.2
      ∙ sym (append_assoc (emit_node_events n) (emit_nodes_events h.0) (emit_sequence_end ∷ h.1)),
  h.3,
)
part_first Key true After n es h = (
  emit_pair n h.0 h.1,
  h.2,
  ap (λ r. emit_node_events n ++ r) h.3
      ∙ sym (append_assoc (emit_node_events n) (emit_node_events h.0 ++ emit_pairs_events h.1) (emit_mapping_end ∷ h.2)
      ∙ ap (λ r. emit_node_events n ++ r)
      (append_assoc (emit_node_events h.0) (emit_pairs_events h.1) (emit_mapping_end ∷ h.2))),
  h.4,
)
part_first Key false After n es h = (
  emit_pair n h.0 h.1,
  h.2,
  ap (λ r. emit_node_events n ++ r) h.3
      ∙ sym (append_assoc (emit_node_events n) (emit_node_events h.0 ++ emit_pairs_events h.1) (emit_mapping_end ∷ h.2)
      ∙ ap (λ r. emit_node_events n ++ r)
      (append_assoc (emit_node_events h.0) (emit_pairs_events h.1) (emit_mapping_end ∷ h.2))),
  h.4,
)
part_first Value simple After n es h = (n, h.0, h.1, ap (λ r. emit_node_events n ++ r) h.2, h.3)
part_first FarValue simple After n es h = (n, h.0, h.1, ap (λ r. emit_node_events n ++ r) h.2, h.3)

-- a node where one may stand, as a simple key or not, and what may follow it
abbrev NodeFollows : LayoutState → (simple : Bool) → List PlainEmit → Type 0
NodeFollows before_root simple es = Closes [] es
NodeFollows (within (o ∷ outer)) simple es = Closing (next_awaits o.awaits simple) (Closes outer) es
NodeFollows (within []) simple es = ⊥
NodeFollows before_stream simple es = ⊥
NodeFollows between_documents simple es = ⊥
NodeFollows after_stream simple es = ⊥

node_first : (st : LayoutState) (simple : Bool) (n : EmitNode) (es : List PlainEmit) → NodeFollows st simple es
    → Follows st (emit_node_events n ++ es)
node_first before_root simple n es h = (n, es, refl, h)
node_first (within (o ∷ outer)) simple n es h = part_first o.awaits simple (Closes outer) n es h
node_first (within []) simple n es h = absurd h
node_first before_stream simple n es h = absurd h
node_first between_documents simple n es h = absurd h
node_first after_stream simple n es h = absurd h

-- behind a leaf
behind_leaf : (out : List ℕ) (first : Bool) (st : LayoutState) (n : EmitNode) (simple : Bool) (es : List PlainEmit)
    → FollowsSome (option_map (λ b. with_text b.0 (node_text b.1 n)) (begun_from out first st simple)) es
    → NodeFollows st simple es
behind_leaf out first before_root n simple es h = h
behind_leaf out first (within (o ∷ outer)) n simple es h = h
behind_leaf out first (within []) n simple es h = h
behind_leaf out first before_stream n simple es h = h
behind_leaf out first between_documents n simple es h = h
behind_leaf out first after_stream n simple es h = h

-- a sequence is the next node
sequence_first : (st : LayoutState) (tag : Option (List ℕ)) (es : List PlainEmit) (nodes : EmitNodes)
    (rest : List PlainEmit)
    → es ≡ emit_nodes_events nodes ++ (emit_sequence_end ∷ rest) → NodeFollows st false rest
    → Follows st (emit_sequence_start tag ∷ es)
sequence_first st tag es nodes rest is h =
    subst (Follows st) (ap (λ r. emit_sequence_start tag ∷ r)
    (append_assoc (emit_nodes_events nodes) (emit_sequence_end ∷ []) rest ∙ sym is))
    (node_first st false (emit_sequence_node tag nodes) rest h)

-- a mapping is the next node
mapping_first : (st : LayoutState) (tag : Option (List ℕ)) (es : List PlainEmit) (pairs : EmitPairs)
    (rest : List PlainEmit)
    → es ≡ emit_pairs_events pairs ++ (emit_mapping_end ∷ rest) → NodeFollows st false rest
    → Follows st (emit_mapping_start tag ∷ es)
mapping_first st tag es pairs rest is h =
    subst (Follows st) (ap (λ r. emit_mapping_start tag ∷ r)
    (append_assoc (emit_pairs_events pairs) (emit_mapping_end ∷ []) rest ∙ sym is))
    (node_first st false (emit_mapping_node tag pairs) rest h)

-- behind the start of a sequence
in_sequence : (out : List ℕ) (first : Bool) (st : LayoutState) (tag : Option (List ℕ)) (es : List PlainEmit)
    → FollowsSome (option_map (λ b. with_collection (tag_or_empty tag) Item b.0 b.1) (begun_from out first st false)) es
    → Follows st (emit_sequence_start tag ∷ es)
in_sequence out first before_root tag es h = sequence_first before_root tag es h.0 h.1 h.2 h.3
in_sequence out first (within (o ∷ outer)) tag es h = sequence_first (within (o ∷ outer)) tag es h.0 h.1 h.2 h.3
in_sequence out first (within []) tag es h = absurd h
in_sequence out first before_stream tag es h = absurd h
in_sequence out first between_documents tag es h = absurd h
in_sequence out first after_stream tag es h = absurd h

-- behind the start of a mapping
in_mapping : (out : List ℕ) (first : Bool) (st : LayoutState) (tag : Option (List ℕ)) (es : List PlainEmit)
    → FollowsSome (option_map (λ b. with_collection (tag_or_empty tag) Key b.0 b.1) (begun_from out first st false)) es
    → Follows st (emit_mapping_start tag ∷ es)
in_mapping out first before_root tag es h = mapping_first before_root tag es h.0 h.1 h.2 h.3
in_mapping out first (within (o ∷ outer)) tag es h = mapping_first (within (o ∷ outer)) tag es h.0 h.1 h.2 h.3
in_mapping out first (within []) tag es h = absurd h
in_mapping out first before_stream tag es h = absurd h
in_mapping out first between_documents tag es h = absurd h
in_mapping out first after_stream tag es h = absurd h

-- behind the end of a sequence
sequence_closed : (awaits : Awaits) (s : Laid) (outer : List Open) (es : List PlainEmit)
    → FollowsSome (in_state_if (closes Item awaits) s (within outer)) es
    → Closing awaits (Closes outer) (emit_sequence_end ∷ es)
sequence_closed Item s outer es h = (no_emit_nodes, es, refl, h)
sequence_closed Key s outer es h = absurd h
sequence_closed Value s outer es h = absurd h
sequence_closed FarValue s outer es h = absurd h

-- behind the end of a mapping
mapping_closed : (awaits : Awaits) (s : Laid) (outer : List Open) (es : List PlainEmit)
    → FollowsSome (in_state_if (closes Key awaits) s (within outer)) es
    → Closing awaits (Closes outer) (emit_mapping_end ∷ es)
mapping_closed Key s outer es h = (no_emit_pairs, es, refl, h)
mapping_closed Item s outer es h = absurd h
mapping_closed Value s outer es h = absurd h
mapping_closed FarValue s outer es h = absurd h

-- behind an event that is no node
behind_stream_start : (s : Laid) (st : LayoutState) (es : List PlainEmit) → FollowsSome (stream_begun s st) es
    → Follows st (emit_stream_start ∷ es)
behind_stream_start s before_stream es h = (h.0, ap (λ r. emit_stream_start ∷ r) h.1)
behind_stream_start s _ es h = absurd h

behind_stream_end : (s : Laid) (st : LayoutState) (es : List PlainEmit) → FollowsSome (stream_ended s st) es
    → Follows st (emit_stream_end ∷ es)
behind_stream_end s between_documents es h = ([], ap (λ r. emit_stream_end ∷ r) h)
behind_stream_end s _ es h = absurd h

behind_document_start : (s : Laid) (st : LayoutState) (es : List PlainEmit) → FollowsSome (document_begun s st) es
    → Follows st (emit_document_start ∷ es)
behind_document_start s between_documents es h = (
  h.0 ∷ h.3.0,
  ap (λ r. emit_document_start ∷ r)
      (h.2 ∙ (ap (λ r. emit_node_events h.0 ++ r) h.3.1 ∙ sym (document_then h.0 h.3.0))),
)
behind_document_start s _ es h = absurd h

behind_document_end : (s : Laid) (st : LayoutState) (es : List PlainEmit) → FollowsSome (document_ended s st) es
    → Follows st (emit_document_end ∷ es)
behind_document_end s (within []) es h = (h.0, ap (λ r. emit_document_end ∷ r) h.1)
behind_document_end s _ es h = absurd h

behind_sequence_end : (s : Laid) (st : LayoutState) (es : List PlainEmit) → FollowsSome (closed_in Item s st) es
    → Follows st (emit_sequence_end ∷ es)
behind_sequence_end s (within (o ∷ outer)) es h = sequence_closed o.awaits s outer es h
behind_sequence_end s _ es h = absurd h

behind_mapping_end : (s : Laid) (st : LayoutState) (es : List PlainEmit) → FollowsSome (closed_in Key s st) es
    → Follows st (emit_mapping_end ∷ es)
behind_mapping_end s (within (o ∷ outer)) es h = mapping_closed o.awaits s outer es h
behind_mapping_end s _ es h = absurd h

-- a leaf is the next node
leaf_first : (s : Laid) (n : EmitNode) (es : List PlainEmit) → FollowsSome (with_node_text s n) es
    → Follows s.state (emit_node_events n ++ es)
leaf_first s n es h =
    node_first s.state (is_simple_key n) n es (behind_leaf s.out s.first s.state n (is_simple_key n) es h)

-- what follows an event follows the state before it
behind_step : (s : Laid) (e : PlainEmit) (es : List PlainEmit) → FollowsSome (step s e) es → Follows s.state (e ∷ es)
behind_step s emit_stream_start es h = behind_stream_start s s.state es h
behind_step s emit_stream_end es h = behind_stream_end s s.state es h
behind_step s emit_document_start es h = behind_document_start s s.state es h
behind_step s emit_document_end es h = behind_document_end s s.state es h
behind_step s (emit_scalar tag text style) es h = leaf_first s (emit_scalar_node tag text style) es h
behind_step s (emit_sequence_start tag) es h = in_sequence s.out s.first s.state tag es h
behind_step s emit_sequence_end es h = behind_sequence_end s s.state es h
behind_step s (emit_mapping_start tag) es h = in_mapping s.out s.first s.state tag es h
behind_step s emit_mapping_end es h = behind_mapping_end s s.state es h

-- where the text is whole, the events are too
at_end : (out : List ℕ) (st : LayoutState) (text : List ℕ) → finished out st ≡ Some text → Follows st []
at_end out after_stream text h = refl
at_end out before_stream text h = absurd (cc)
at_end out between_documents text h = absurd (cc)
at_end out before_root text h = absurd (cc)
at_end out (within opened) text h = absurd (cc)

-- events that are printed to their end may follow
follows_run : (es : List PlainEmit) (o : Option Laid) (text : List ℕ) → printed_from o es ≡ Some text → FollowsSome o es
follows_run [] None text h = absurd (cc)
follows_run [] (Some s) text h = at_end s.out s.state text h
follows_run (emit_sequence_start tag ∷ emit_sequence_end ∷ es) (Some s) text h =
    leaf_first s (emit_sequence_node tag no_emit_nodes) es
    (follows_run es (with_node_text s (emit_sequence_node tag no_emit_nodes)) text h)
follows_run (emit_mapping_start tag ∷ emit_mapping_end ∷ es) (Some s) text h =
    leaf_first s (emit_mapping_node tag no_emit_pairs) es
    (follows_run es (with_node_text s (emit_mapping_node tag no_emit_pairs)) text h)
follows_run (e ∷ es) (Some s) text h = behind_step s e es (follows_run es (step s e) text h)
follows_run (e ∷ es) None text h = absurd (cc)

-- events that are printed to their end are a stream, whose text is printed
pub whole_text : (es : List PlainEmit) (text : List ℕ) → printed_from (Some unbegun) es ≡ Some text
    → IsStreamText es text
whole_text es text h =
    let f = follows_run es (Some unbegun) text h in
    let same : Some text ≡ Some (stream_text f.0) = sym h
    ∙ (ap (printed_from (Some unbegun)) f.1 ∙ prints_stream f.0) in
    record { roots = f.0; stream = f.1; printed = ap (λ o. unwrap_or o []) same }

-- events that are refused are no stream
pub no_stream : (es : List PlainEmit) → printed_from (Some unbegun) es ≡ None → IsEmitStream es → ⊥
no_stream es h w =
    let same : None ≡ Some (stream_text w.0) = sym h ∙ (ap (printed_from (Some unbegun)) w.1 ∙ prints_stream w.0) in
    absurd (cc)

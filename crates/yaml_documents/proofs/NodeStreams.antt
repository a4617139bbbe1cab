-- The events of the tree of a document are a stream's.
use Rattle.std.proofs.Common.{◌≡◌, ◌∷◌, ◌++◌, ◌∙◌, [], List, None, Option, Some, ap, append_assoc, map, refl, ℕ}
use Rattle.std.proofs.lemmas.List.{map-append}
use Rattle.yaml_base.proofs.StreamMachineLaws.{whole_run}
use Rattle.yaml_base.specs.DocTree.{DocNode, DocNodes, DocPairs, events_of, events_of_nodes, events_of_pairs, list}
use Rattle.yaml_base.specs.DocTree.{mapping, no_nodes, no_pairs, node, nothing, pair, reference, word}
use Rattle.yaml_base.specs.PlainDocEvent.{PlainDocEvent, a_scalar, a_void, alias_to, mapping_begins, mapping_ends}
use Rattle.yaml_base.specs.PlainDocEvent.{sequence_begins, sequence_ends}
use Rattle.yaml_base.specs.PlainEvent.{PlainEvent, PlainScalar, alias, document_end, document_start, mapping_end}
use Rattle.yaml_base.specs.PlainEvent.{mapping_start, scalar, sequence_end, sequence_start, stream_end, stream_start}
use Rattle.yaml_base.specs.Stream.{IsStream}
use Rattle.yaml_base.specs.StreamMachine.{State, after_stream, before_root, before_stream, between_documents}
use Rattle.yaml_base.specs.StreamMachine.{next_state, run, within}
use Rattle.yaml_base.specs.Tree as tree
use Rattle.yaml_base.specs.Tree.{node_events, nodes_events, pairs_events}
use Rattle.yaml_base.specs.declared.open.Open.TheVariants.{Key, Sequence, Value}
use Rattle.yaml_load.specs.Documents.{node_event}

-- an event of a parser that may stand for that of a document
abbrev plain : PlainDocEvent → PlainEvent
plain (alias_to target) = alias []
plain (a_scalar s) = scalar s
plain (sequence_begins tag) = sequence_start None tag
plain sequence_ends = sequence_end
plain (mapping_begins tag) = mapping_start None tag
plain mapping_ends = mapping_end
plain a_void = alias []

-- so the tree of a stream
abbrev mutual
  tree_for : DocNode → tree.Node
  tree_for nothing = tree.alias_node []
  tree_for (reference target) = tree.alias_node []
  tree_for (word s) = tree.scalar_node s
  tree_for (list tag nodes) = tree.sequence_node None tag (trees_for nodes)
  tree_for (mapping tag pairs) = tree.mapping_node None tag (pairs_for pairs)

  trees_for : DocNodes → tree.Nodes
  trees_for no_nodes = tree.no_nodes
  trees_for (node n nodes) = tree.node (tree_for n) (trees_for nodes)

  pairs_for : DocPairs → tree.NodePairs
  pairs_for no_pairs = tree.no_pairs
  pairs_for (pair key value pairs) = tree.pair (tree_for key) (tree_for value) (pairs_for pairs)

mutual
  has_events : (n : DocNode) (rest : List PlainEvent) → map plain (events_of n) ++ rest ≡ node_events (tree_for n) rest
  has_events nothing rest = refl
  has_events (reference target) rest = refl
  has_events (word s) rest = refl
  has_events (list tag nodes) rest =
      let held = events_of_nodes nodes in
      ap (λ es. sequence_start None tag ∷ (es ++ rest)) (map-append plain held (sequence_ends ∷ []))
      ∙ ap (λ es. sequence_start None tag ∷ es) (append_assoc (map plain held) (sequence_end ∷ []) rest
      ∙ have_events nodes (sequence_end ∷ rest))
  has_events (mapping tag pairs) rest =
      let held = events_of_pairs pairs in
      ap (λ es. mapping_start None tag ∷ (es ++ rest)) (map-append plain held (mapping_ends ∷ []))
      ∙ ap (λ es. mapping_start None tag ∷ es) (append_assoc (map plain held) (mapping_end ∷ []) rest
      ∙ pairs_have_events pairs (mapping_end ∷ rest))

  have_events : (nodes : DocNodes) (rest : List PlainEvent)
      → map plain (events_of_nodes nodes) ++ rest ≡ nodes_events (trees_for nodes) rest
  have_events no_nodes rest = refl
  have_events (node n nodes) rest =
      ap (λ es. es ++ rest) (map-append plain (events_of n) (events_of_nodes nodes))
      ∙ append_assoc (map plain (events_of n)) (map plain (events_of_nodes nodes)) rest
      ∙ ap (λ es. map plain (events_of n) ++ es) (have_events nodes rest)
      ∙ has_events n (nodes_events (trees_for nodes) rest)

  pairs_have_events : (pairs : DocPairs) (rest : List PlainEvent)
      → map plain (events_of_pairs pairs) ++ rest ≡ pairs_events (pairs_for pairs) rest
  pairs_have_events no_pairs rest = refl
  pairs_have_events (pair key value pairs) rest =
      let keys = map plain (events_of key) in
      let values = map plain (events_of value) in
      let others = map plain (events_of_pairs pairs) in
      ap (λ es. es ++ rest) (map-append plain (events_of key) (events_of value ++ events_of_pairs pairs)
      ∙ ap (λ es. keys ++ es) (map-append plain (events_of value) (events_of_pairs pairs)))
      ∙ append_assoc keys (values ++ others) rest
      ∙ ap (λ es. keys ++ es) (append_assoc values others rest
      ∙ ap (λ es. values ++ es) (pairs_have_events pairs rest)
      ∙ has_events value (pairs_events (pairs_for pairs) rest))
      ∙ has_events key (node_events (tree_for value) (pairs_events (pairs_for pairs) rest))

-- the machine takes an event as it takes what stands for that of the document
scalar_same : (state : State) (s other : PlainScalar) → next_state state (scalar s) ≡ next_state state (scalar other)
scalar_same before_stream s other = refl
scalar_same between_documents s other = refl
scalar_same before_root s other = refl
scalar_same (within []) s other = refl
scalar_same (within (Sequence ∷ opened)) s other = refl
scalar_same (within (Key ∷ opened)) s other = refl
scalar_same (within (Value ∷ opened)) s other = refl
scalar_same after_stream s other = refl

sequence_same : (state : State) (anchor other tag : Option (List ℕ))
    → next_state state (sequence_start anchor tag) ≡ next_state state (sequence_start other tag)
sequence_same before_stream anchor other tag = refl
sequence_same between_documents anchor other tag = refl
sequence_same before_root anchor other tag = refl
sequence_same (within []) anchor other tag = refl
sequence_same (within (Sequence ∷ opened)) anchor other tag = refl
sequence_same (within (Key ∷ opened)) anchor other tag = refl
sequence_same (within (Value ∷ opened)) anchor other tag = refl
sequence_same after_stream anchor other tag = refl

mapping_same : (state : State) (anchor other tag : Option (List ℕ))
    → next_state state (mapping_start anchor tag) ≡ next_state state (mapping_start other tag)
mapping_same before_stream anchor other tag = refl
mapping_same between_documents anchor other tag = refl
mapping_same before_root anchor other tag = refl
mapping_same (within []) anchor other tag = refl
mapping_same (within (Sequence ∷ opened)) anchor other tag = refl
mapping_same (within (Key ∷ opened)) anchor other tag = refl
mapping_same (within (Value ∷ opened)) anchor other tag = refl
mapping_same after_stream anchor other tag = refl

abbrev plain_or : PlainEvent → Option PlainDocEvent → PlainEvent
plain_or e None = e
plain_or e (Some d) = plain d

step_same : (state : State) (e : PlainEvent) (d : PlainDocEvent) → node_event e ≡ Some d
    → next_state state e ≡ next_state state (plain d)
step_same state e d is = at e ∙ ap (λ o. next_state state (plain_or e o)) is
  where
    at : (e : PlainEvent) → next_state state e ≡ next_state state (plain_or e (node_event e))
    at (alias anchor) = refl
    at (scalar s) = scalar_same state s _
    at (sequence_start anchor tag) = sequence_same state anchor None tag
    at sequence_end = refl
    at (mapping_start anchor tag) = mapping_same state anchor None tag
    at mapping_end = refl
    at stream_start = refl
    at stream_end = refl
    at document_start = refl
    at document_end = refl

-- the events are these of a document, and no alias is among them
abbrev pub AreOf : List PlainEvent → List PlainDocEvent → Type 0
AreOf [] [] = Unit {0}
AreOf (e ∷ es) (d ∷ ds) = (node_event e ≡ Some d) × AreOf es ds
AreOf _ _ = ⊥

run_same : (es : List PlainEvent) (ds : List PlainDocEvent) (rest : List PlainEvent) (state : Option State)
    → AreOf es ds → run state (es ++ rest) ≡ run state (map plain ds ++ rest)
run_same [] [] rest state are = refl
run_same [] (d ∷ ds) rest state are = absurd are
run_same (e ∷ es) [] rest state are = absurd are
run_same (e ∷ es) (d ∷ ds) rest None are = refl
run_same (e ∷ es) (d ∷ ds) rest (Some state) are =
    run_same es ds rest (next_state state e) are.1
    ∙ ap (λ o. run o (map plain ds ++ rest)) (step_same state e d are.0)

-- a document of a node alone is a stream
pub is_stream : (es : List PlainEvent) (root : DocNode) → AreOf es (events_of root)
    → IsStream (stream_start ∷ (document_start ∷ (es ++ (document_end ∷ (stream_end ∷ [])))))
is_stream es root are =
    let rest = document_end ∷ (stream_end ∷ []) in
    let whole : IsStream (stream_start ∷ (document_start ∷ (map plain (events_of root) ++ rest))) =
    (tree_for root ∷ [], ap (λ l. stream_start ∷ (document_start ∷ l)) (has_events root rest)) in
    (whole_run (stream_start ∷ (document_start ∷ (es ++ rest)))).1
    (run_same es (events_of root) rest (Some before_root) are
    ∙ (whole_run (stream_start ∷ (document_start ∷ (map plain (events_of root) ++ rest)))).0 whole)

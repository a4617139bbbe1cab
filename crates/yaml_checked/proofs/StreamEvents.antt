-- The events of any documents are a stream.
use Rattle.std.proofs.Common.{◌≡◌, List, [], ◌∷◌, ◌++◌, ℕ, Option, Some, refl, ap, ◌∙◌, map, append_assoc, length}
use Rattle.yaml_base.specs.PlainEvent.{PlainEvent, document_end, mapping_end, sequence_end, stream_end}
use Rattle.yaml_base.specs.Position.{Position}
use Rattle.yaml_base.specs.StreamMachine.{State, after_stream, before_root, before_stream, begins, between_documents}
use Rattle.yaml_base.specs.StreamMachine.{run, within}
use Rattle.yaml_base.specs.declared.open.Open.{Open}
use Rattle.yaml_base.specs.declared.open.Open.TheVariants.{Key, Sequence, Value}
use Rattle.yaml_grammar.specs.Nodes.{Document, Marked, Node, Nodes, Pairs, alias, documents_events, end_mark}
use Rattle.yaml_grammar.specs.Nodes.{events_of, mapping, no_nodes, no_pairs, node, node_events, nodes_events, pair}
use Rattle.yaml_grammar.specs.Nodes.{pairs_events, scalar, sequence}

-- the events without their marks
abbrev events_in : List Marked → List PlainEvent
events_in es = map (λ (e : Marked). e.0) es

-- the machine behind these events
abbrev behind : State → List Marked → Option State
behind s es = run (Some s) (events_in es)

-- the machine where a node begins, behind the first of these events
abbrev from_node : List Open → List Marked → Option State
from_node opened [] = Some (within opened)
from_node opened (e ∷ es) = run (begins opened e.0) (events_in es)

in_sequence : (n : Node) (opened : List Open) (rest : List Marked)
    → behind (within (Sequence ∷ opened)) (node_events n ++ rest)
    ≡ from_node (Sequence ∷ opened) (node_events n ++ rest)
in_sequence (alias start anchor) opened rest = refl
in_sequence (scalar start s) opened rest = refl
in_sequence (sequence start names ns end) opened rest = refl
in_sequence (mapping start names ps end) opened rest = refl

in_key : (n : Node) (opened : List Open) (rest : List Marked)
    → behind (within (Key ∷ opened)) (node_events n ++ rest) ≡ from_node (Value ∷ opened) (node_events n ++ rest)
in_key (alias start anchor) opened rest = refl
in_key (scalar start s) opened rest = refl
in_key (sequence start names ns end) opened rest = refl
in_key (mapping start names ps end) opened rest = refl

in_value : (n : Node) (opened : List Open) (rest : List Marked)
    → behind (within (Value ∷ opened)) (node_events n ++ rest) ≡ from_node (Key ∷ opened) (node_events n ++ rest)
in_value (alias start anchor) opened rest = refl
in_value (scalar start s) opened rest = refl
in_value (sequence start names ns end) opened rest = refl
in_value (mapping start names ps end) opened rest = refl

in_root : (n : Node) (rest : List Marked)
    → behind before_root (node_events n ++ rest) ≡ from_node [] (node_events n ++ rest)
in_root (alias start anchor) rest = refl
in_root (scalar start s) rest = refl
in_root (sequence start names ns end) rest = refl
in_root (mapping start names ps end) rest = refl

mutual
  takes_node : (n : Node) (opened : List Open) (rest : List Marked)
      → from_node opened (node_events n ++ rest) ≡ behind (within opened) rest
  takes_node (alias start anchor) opened rest = refl
  takes_node (scalar start s) opened rest = refl
  takes_node (sequence start names ns end) opened rest =
      ap (behind (within (Sequence ∷ opened))) (append_assoc (nodes_events ns) ((sequence_end, end) ∷ []) rest)
      ∙ takes_nodes ns opened end rest
  takes_node (mapping start names ps end) opened rest =
      ap (behind (within (Key ∷ opened))) (append_assoc (pairs_events ps) ((mapping_end, end) ∷ []) rest)
      ∙ takes_pairs ps opened end rest

  takes_nodes : (ns : Nodes) (opened : List Open) (end : Position) (rest : List Marked)
      → behind (within (Sequence ∷ opened)) (nodes_events ns ++ ((sequence_end, end) ∷ rest))
      ≡ behind (within opened) rest
  takes_nodes no_nodes opened end rest = refl
  takes_nodes (node n ns) opened end rest =
      let more = (sequence_end, end) ∷ rest in
      ap (behind (within (Sequence ∷ opened))) (append_assoc (node_events n) (nodes_events ns) more)
      ∙ in_sequence n opened (nodes_events ns ++ more) ∙ takes_node n (Sequence ∷ opened) (nodes_events ns ++ more)
      ∙ takes_nodes ns opened end rest

  takes_pairs : (ps : Pairs) (opened : List Open) (end : Position) (rest : List Marked)
      → behind (within (Key ∷ opened)) (pairs_events ps ++ ((mapping_end, end) ∷ rest))
      ≡ behind (within opened) rest
  takes_pairs no_pairs opened end rest = refl
  takes_pairs (pair m n ps) opened end rest =
      let more = (mapping_end, end) ∷ rest in
      ap (behind (within (Key ∷ opened))) (append_assoc (node_events m) (node_events n ++ pairs_events ps) more
      ∙ ap (λ es. node_events m ++ es) (append_assoc (node_events n) (pairs_events ps) more))
      ∙ in_key m opened (node_events n ++ (pairs_events ps ++ more))
      ∙ takes_node m (Value ∷ opened) (node_events n ++ (pairs_events ps ++ more))
      ∙ in_value n opened (pairs_events ps ++ more) ∙ takes_node n (Key ∷ opened) (pairs_events ps ++ more)
      ∙ takes_pairs ps opened end rest

takes_documents : (ds : List Document) (rest : List Marked)
    → behind between_documents (documents_events ds ++ rest) ≡ behind between_documents rest
takes_documents [] rest = refl
takes_documents (d ∷ ds) rest =
    let more = (document_end, d.end) ∷ documents_events ds in
    ap (behind before_root) (append_assoc (node_events d.root) more rest) ∙ in_root d.root (more ++ rest)
    ∙ takes_node d.root [] (more ++ rest) ∙ takes_documents ds rest

pub events_are_a_stream : (text : List ℕ) (documents : List Document)
    → run (Some before_stream) (map (λ (e : Marked). e.0) (events_of text documents)) ≡ Some after_stream
events_are_a_stream text documents =
    takes_documents documents ((stream_end, end_mark text 0 (length text)) ∷ [])

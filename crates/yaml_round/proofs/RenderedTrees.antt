-- What is written and rendered is a tree again: the same structure, without aliases and anchors.
use Rattle.std.proofs.Common.{◌≡◌, ℕ, ◌+◌, List, [], ◌∷◌, ◌++◌, Option, Some, None, refl, ap, ◌∙◌, subst, option_map}
use Rattle.std.proofs.lemmas.List.{append_assoc}
use Rattle.yaml_base.specs.DocTree.{DocNode, DocNodes, DocPairs, word, list, mapping, no_nodes, node, no_pairs, pair}
use Rattle.yaml_base.specs.EmitEvents.{PlainEmit, emit_scalar, emit_sequence_start, emit_sequence_end}
use Rattle.yaml_base.specs.EmitEvents.{emit_mapping_start, emit_mapping_end}
use Rattle.yaml_base.specs.EmitTree.{EmitNode, EmitNodes, EmitPairs, emit_scalar_node, emit_sequence_node}
use Rattle.yaml_base.specs.EmitTree.{emit_mapping_node, no_emit_nodes, emit_node, no_emit_pairs, emit_pair}
use Rattle.yaml_base.specs.EmitTree.{emit_node_events, emit_nodes_events, emit_pairs_events}
use Rattle.yaml_base.specs.PlainEvent.{PlainScalar, PlainEvent}
use Rattle.yaml_base.specs.Renders.{Renders, RendersEvent, RendersScalar}
use Rattle.yaml_base.specs.Tree.{Node, scalar_node, sequence_node, mapping_node, Nodes, NodePairs, node_events}
use Rattle.yaml_base.specs.Tree.{nodes_events, pairs_events, size_of}
use Rattle.yaml_base.specs.Tree as tree
use Rattle.yaml_read.specs.Resolved.{resolved_from, resolved_nodes, resolved_pairs, node_then_nodes, pair_then_pairs}
use Rattle.yaml_read.specs.Resolved.{without_anchor}

-- the node of a document is what the node to be written may come back as
abbrev mutual
  pub IsRendered : EmitNode → DocNode → Type 0
  IsRendered (emit_scalar_node tag text style) n = (w : PlainScalar) × (n ≡ word w) × RendersScalar tag text style w
  IsRendered (emit_sequence_node tag es) n = (ns : DocNodes) × (n ≡ list tag ns) × AreRendered es ns
  IsRendered (emit_mapping_node tag es) n = (ns : DocPairs) × (n ≡ mapping tag ns) × PairsAreRendered es ns

  pub AreRendered : EmitNodes → DocNodes → Type 0
  AreRendered no_emit_nodes ns = ns ≡ no_nodes
  AreRendered (emit_node e es) ns =
      (n : DocNode) × (rest : DocNodes) × (ns ≡ node n rest) × IsRendered e n × AreRendered es rest

  pub PairsAreRendered : EmitPairs → DocPairs → Type 0
  PairsAreRendered no_emit_pairs ns = ns ≡ no_pairs
  PairsAreRendered (emit_pair key value es) ns =
      (k : DocNode) × (v : DocNode) × (rest : DocPairs) × (ns ≡ pair k v rest) × IsRendered key k × IsRendered value v
      × PairsAreRendered es rest

-- how a tree comes back of the events in front of the rest
pub record Comes (e : EmitNode) (rest : List PlainEmit) (events : List PlainEvent) : Type 0 where
  pub root : Node
  pub tree : DocNode
  pub later : List PlainEvent
  pub split : events ≡ node_events root later
  pub renders : Renders rest later
  pub resolves : (find : List ℕ → ℕ → Option ℕ) (number : ℕ) → resolved_from find root number ≡ Some tree
  pub rendered : IsRendered e tree

pub record AllCome (es : EmitNodes) (rest : List PlainEmit) (events : List PlainEvent) : Type 0 where
  pub roots : Nodes
  pub trees : DocNodes
  pub later : List PlainEvent
  pub split : events ≡ nodes_events roots later
  pub renders : Renders rest later
  pub resolves : (find : List ℕ → ℕ → Option ℕ) (number : ℕ) → resolved_nodes find roots number ≡ Some trees
  pub rendered : AreRendered es trees

pub record PairsCome (es : EmitPairs) (rest : List PlainEmit) (events : List PlainEvent) : Type 0 where
  pub roots : NodePairs
  pub trees : DocPairs
  pub later : List PlainEvent
  pub split : events ≡ pairs_events roots later
  pub renders : Renders rest later
  pub resolves : (find : List ℕ → ℕ → Option ℕ) (number : ℕ) → resolved_pairs find roots number ≡ Some trees
  pub rendered : PairsAreRendered es trees

-- the first event, and what follows it
pub record First (w : PlainEmit) (rest : List PlainEmit) (events : List PlainEvent) : Type 0 where
  pub first : PlainEvent
  pub later : List PlainEvent
  pub split : events ≡ first ∷ later
  pub is : RendersEvent w first
  pub renders : Renders rest later

pub first_of : (w : PlainEmit) (rest : List PlainEmit) (events : List PlainEvent) → Renders (w ∷ rest) events
    → First w rest events
first_of w rest [] h = absurd h
first_of w rest (e ∷ events) h = record { first = e; later = events; split = refl; is = h.0; renders = h.1 }

-- the events of parts and an end, in front of the rest
opened : (parts rest : List PlainEmit) (end : PlainEmit) (events : List PlainEvent)
    → Renders ((parts ++ end ∷ []) ++ rest) events → Renders (parts ++ end ∷ rest) events
opened parts rest end events h = subst (λ l. Renders l events) (append_assoc parts (end ∷ []) rest) h

joint : (front back rest : List PlainEmit) (events : List PlainEvent) → Renders ((front ++ back) ++ rest) events
    → Renders (front ++ (back ++ rest)) events
joint front back rest events h = subst (λ l. Renders l events) (append_assoc front back rest) h

mutual
  pub comes : (e : EmitNode) (rest : List PlainEmit) (events : List PlainEvent)
      → Renders (emit_node_events e ++ rest) events → Comes e rest events
  comes (emit_scalar_node tag text style) rest events h =
      let f = first_of (emit_scalar tag text style) rest events h in
      let s = f.is.0 in
      let r = f.is.2 in
      record {
        root = scalar_node s;
        tree = word (without_anchor s);
        later = f.later;
        split = f.split ∙ ap (λ x. x ∷ f.later) f.is.1;
        renders = f.renders;
        resolves = λ find number. refl;
        rendered = (
          without_anchor s,
          refl,
          record {
            unanchored = refl;
            same_tag = r.same_tag;
            same_text = r.same_text;
            permitted = r.permitted;
          },
        );
      }
  comes (emit_sequence_node tag es) rest events h =
      let f = first_of (emit_sequence_start tag) ((emit_nodes_events es ++ emit_sequence_end ∷ []) ++ rest) events h in
      let all = all_come es (emit_sequence_end ∷ rest) f.later
      (opened (emit_nodes_events es) rest emit_sequence_end f.later f.renders) in
      let g = first_of emit_sequence_end rest all.later all.renders in
      record {
        root = sequence_node None tag all.roots;
        tree = list tag all.trees;
        later = g.later;
        split = f.split ∙ (λ i. f.is i ∷
            (all.split ∙ ap (nodes_events all.roots) (g.split ∙ ap (λ x. x ∷ g.later) g.is)) i);
        renders = g.renders;
        resolves = λ find number. ap (option_map (list tag)) (all.resolves find (number + 1));
        rendered = (all.trees, refl, all.rendered);
      }
  comes (emit_mapping_node tag es) rest events h =
      let f = first_of (emit_mapping_start tag) ((emit_pairs_events es ++ emit_mapping_end ∷ []) ++ rest) events h in
      let all = pairs_come es (emit_mapping_end ∷ rest) f.later
      (opened (emit_pairs_events es) rest emit_mapping_end f.later f.renders) in
      let g = first_of emit_mapping_end rest all.later all.renders in
      record {
        root = mapping_node None tag all.roots;
        tree = mapping tag all.trees;
        later = g.later;
        split = f.split ∙ (λ i. f.is i ∷
            (all.split ∙ ap (pairs_events all.roots) (g.split ∙ ap (λ x. x ∷ g.later) g.is)) i);
        renders = g.renders;
        resolves = λ find number. ap (option_map (mapping tag)) (all.resolves find (number + 1));
        rendered = (all.trees, refl, all.rendered);
      }

  all_come : (es : EmitNodes) (rest : List PlainEmit) (events : List PlainEvent)
      → Renders (emit_nodes_events es ++ rest) events → AllCome es rest events
  all_come no_emit_nodes rest events h = record {
    roots = tree.no_nodes;
    trees = no_nodes;
    later = events;
    split = refl;
    renders = h;
    resolves = λ find number. refl;
    rendered = refl;
  }
  all_come (emit_node e es) rest events h =
      let one = comes e (emit_nodes_events es ++ rest) events
      (joint (emit_node_events e) (emit_nodes_events es) rest events h) in
      let all = all_come es rest one.later one.renders in
      record {
        roots = tree.node one.root all.roots;
        trees = node one.tree all.trees;
        later = all.later;
        split = one.split ∙ ap (node_events one.root) all.split;
        renders = all.renders;
        resolves = λ find number. λ i. node_then_nodes (one.resolves find number i)
            (all.resolves find (number + size_of one.root) i);
        rendered = (one.tree, all.trees, refl, one.rendered, all.rendered);
      }

  pairs_come : (es : EmitPairs) (rest : List PlainEmit) (events : List PlainEvent)
      → Renders (emit_pairs_events es ++ rest) events → PairsCome es rest events
  pairs_come no_emit_pairs rest events h = record {
    roots = tree.no_pairs;
    trees = no_pairs;
    later = events;
    split = refl;
    renders = h;
    resolves = λ find number. refl;
    rendered = refl;
  }
  pairs_come (emit_pair key value es) rest events h =
      let k = comes key ((emit_node_events value ++ emit_pairs_events es) ++ rest) events
      (joint (emit_node_events key) (emit_node_events value ++ emit_pairs_events es) rest events h) in
      let v = comes value (emit_pairs_events es ++ rest) k.later
      (joint (emit_node_events value) (emit_pairs_events es) rest k.later k.renders) in
      let all = pairs_come es rest v.later v.renders in
      record {
        roots = tree.pair k.root v.root all.roots;
        trees = pair k.tree v.tree all.trees;
        later = all.later;
        split = k.split ∙ ap (node_events k.root) (v.split ∙ ap (node_events v.root) all.split);
        renders = all.renders;
        resolves = λ find number. λ i.
            pair_then_pairs (k.resolves find number i) (v.resolves find (number + size_of k.root) i)
            (all.resolves find (number + size_of k.root + size_of v.root) i);
        rendered = (k.tree, v.tree, all.trees, refl, k.rendered, v.rendered, all.rendered);
      }

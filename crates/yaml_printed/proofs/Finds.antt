-- What is found behind an indicator: the node that was printed there.
use Rattle.std.proofs.Common.{◌≡◌, ℕ, suc, ◌+◌, true, false, refl}
use Rattle.std.proofs.Common.{subst, ap, ◌∙◌, arith, List, [], ◌∷◌, ◌++◌, length}
use Rattle.std.proofs.Common.{append_assoc}
use Rattle.std.proofs.lemmas.Bool.{false≢true}
use Rattle.yaml_base.specs.EmitEvents.{PlainEmit}
use Rattle.yaml_base.specs.EmitTree.{EmitNode}
use Rattle.yaml_base.specs.EmitTree.{EmitNodes, no_emit_nodes, emit_node, EmitPairs, no_emit_pairs}
use Rattle.yaml_base.specs.EmitTree.{emit_node_events, emit_nodes_events, emit_pairs_events}
use Rattle.yaml_base.specs.MarkedEvents.{events_in}
use Rattle.yaml_base.specs.Renders.{Renders}
use Rattle.yaml_emit.specs.Places.{item_place, far_place, value_place}
use Rattle.yaml_emit.specs.StreamTexts.{node_text, items_text, pairs_text}
use Rattle.yaml_emit.specs.declared.open.Lead.TheVariants.{Fresh, Indicator}
use Rattle.yaml_emit.specs.declared.open.Place.{Place}
use Rattle.yaml_grammar.specs.Blocks.{Room, anything, part, value, takes_columns, is_of_mapping, Behind, BlockNode}
use Rattle.yaml_grammar.specs.Blocks.{Items, Entries, no_item, an_item, no_entry}
use Rattle.yaml_grammar.specs.Bytes.{at, column, is_gap, is_mark}
use Rattle.yaml_grammar.specs.Gaps.{is_at, is_item}
use Rattle.yaml_grammar.specs.Nodes.{Marked, Node, Nodes, Pairs, no_nodes, node, no_pairs, node_events, nodes_events}
use Rattle.yaml_grammar.specs.Nodes.{pairs_events}
use Rattle.yaml_printed.proofs.Aheads.{Ahead, gone}
use Rattle.yaml_printed.proofs.Rests.{Rest, rest_is, rest_on, rest_at, rest_skip, rest_place}
use Rattle.yaml_printed.proofs.Rests.{a_dash, column_step}
use Rattle.yaml_printed.proofs.TreeEnds.{Line, rest_gap, more_gap, node_gap, node_feed, line_behind}
use Rattle.yaml_printed.proofs.TreeEnds.{behind_indicator}
use Rattle.yaml_printed.proofs.Words.{equal_self}

-- ---- events

pub renders_append : (xs ys : List PlainEmit) (as' bs : List Marked) → Renders xs (events_in as')
    → Renders ys (events_in bs)
    → Renders (xs ++ ys) (events_in (as' ++ bs))
renders_append [] ys [] bs h g = g
renders_append [] ys (a ∷ as') bs h g = absurd h
renders_append (x ∷ xs) ys [] bs h g = absurd h
renders_append (x ∷ xs) ys (a ∷ as') bs h g = (h.0, renders_append xs ys as' bs h.1 g)

-- ---- what begins a part

-- the place of what stands behind an indicator in a column, by the room there
abbrev pub place_in : Room → ℕ → Place
place_in anything c = item_place c
place_in part c = far_place c
place_in value c = value_place c

-- a node as a token
pub record Here (text : List ℕ) (d least : ℕ) (room : Room) (i j : ℕ) (n : EmitNode) : Type 0 where
  pub node : Node
  pub stands : BlockNode text d least room i j node
  pub same : Renders (emit_node_events n) (events_in (node_events node))

-- a node behind an indicator
pub record Found (text : List ℕ) (d c : ℕ) (room : Room) (i j : ℕ) (n : EmitNode) : Type 0 where
  pub node : Node
  pub behind : Behind text d c room i j node
  pub same : Renders (emit_node_events n) (events_in (node_events node))

pub record ItemsFound (text : List ℕ) (d c i j : ℕ) (ns : EmitNodes) : Type 0 where
  pub nodes : Nodes
  pub items : Items text d c i j nodes
  pub same : Renders (emit_nodes_events ns) (events_in (nodes_events nodes))

pub record PairsFound (text : List ℕ) (d c i j : ℕ) (ps : EmitPairs) : Type 0 where
  pub pairs : Pairs
  pub entries : Entries text d c i j pairs
  pub same : Renders (emit_pairs_events ps) (events_in (pairs_events pairs))

-- the parts from a line on, and where the first token of that stands
pub record MoreItems (text : List ℕ) (d c i j : ℕ) (ns : EmitNodes) (after : List ℕ) : Type 0 where
  pub k : ℕ
  pub ahead : Ahead text (suc c) i k after
  pub found : ItemsFound text d c k j ns

pub record MorePairs (text : List ℕ) (d c i j : ℕ) (ps : EmitPairs) (after : List ℕ) : Type 0 where
  pub k : ℕ
  pub ahead : Ahead text (suc c) i k after
  pub no_dash : is_item text c k ≡ false
  pub found : PairsFound text d c k j ps

-- what is proved of each
abbrev pub BehindIs : List ℕ → (d c : ℕ) → Room → EmitNode → Type 0
BehindIs text d c room n = (i e j : ℕ) (after : List ℕ) → Rest text i (node_text (place_in room c) n ++ after)
    → (takes_columns room ≡ true → column text i ≡ suc c) → Ahead text (suc c) e j after
    → (is_of_mapping room ≡ true → is_item text c j ≡ false) → Found text d c room i j n

abbrev pub ItemsAre : List ℕ → (d c : ℕ) → EmitNodes → Type 0
ItemsAre text d c ns = (i e j : ℕ) (after : List ℕ) → Rest text i (items_text Fresh c ns ++ after) → Line text i
    → Ahead text (suc c) e j after → is_item text c j ≡ false
    → MoreItems text d c i j ns (items_text Fresh c ns ++ after)

abbrev pub PairsAre : List ℕ → (d c : ℕ) → EmitPairs → Type 0
PairsAre text d c ps = (i e j : ℕ) (after : List ℕ) → Rest text i (pairs_text Fresh c ps ++ after) → Line text i
    → Ahead text (suc c) e j after → is_at text c j ≡ false → is_item text c j ≡ false
    → MorePairs text d c i j ps (pairs_text Fresh c ps ++ after)

-- ---- items

-- the line of an item from its `-` on, and the further items
abbrev pub items_line : (c : ℕ) → EmitNode → EmitNodes → List ℕ
items_line c n ns = 45 ∷ (node_text (item_place c) n ++ items_text Fresh c ns)

pub dash_mark : (text : List ℕ) (c : ℕ) (n : EmitNode) (ns : EmitNodes) (i : ℕ) (after : List ℕ)
    → Rest text i (items_line c n ns ++ after) → is_mark text 45 i ≡ true
dash_mark text c n ns i after r =
    let next : i + 1 ≡ suc i = omega arith in
    let behind : is_gap (at text (suc i)) ≡ true
    = rest_gap (node_text (item_place c) n ++ items_text Fresh c ns) after
    (more_gap (node_text (item_place c) n) (items_text Fresh c ns) (node_gap Indicator (c + 2) (c + 2) n
    behind_indicator))
    (rest_on r) in
    rw (rest_at r) (ap (λ k. is_gap (at text k)) next ∙ behind)

pub at_item : (text : List ℕ) (c i : ℕ) → is_mark text 45 i ≡ true → column text i ≡ c → is_item text c i ≡ true
at_item text c i m e = rw (m, e) (equal_self c)

-- an item, and those behind it
pub items_stand : (text : List ℕ) (d c : ℕ) (n : EmitNode) (ns : EmitNodes) → BehindIs text d c anything n
    → ItemsAre text d c ns → (i e j : ℕ) (after : List ℕ) → Rest text i (items_line c n ns ++ after)
    → column text i ≡ c → Ahead text (suc c) e j after → is_item text c j ≡ false
    → ItemsFound text d c i j (emit_node n ns)
items_stand text d c n ns one more i e j after r col a end =
    let own = node_text (item_place c) n in
    let rest = items_text Fresh c ns ++ after in
    let s = suc i in
    let r1 : Rest text s (own ++ rest) = rest_is (append_assoc own (items_text Fresh c ns) after) (rest_on r) in
    let k = s + length own in
    let r2 : Rest text k rest = rest_skip own r1 in
    let line : Line text k = line_behind own rest s r1 (node_feed n (item_place c) refl false) in
    let m = more k e j after r2 line a end in
    let col1 : column text s ≡ suc c = column_step a_dash r ∙ omega (arith, col) in
    let x = one s k m.k rest r1 (λ h. col1) m.ahead (λ h. absurd (false≢true h)) in
    record {
      nodes = node x.node m.found.nodes;
      items =
          an_item {n = x.node} {ns = m.found.nodes} (at_item text c i (dash_mark text c n ns i after r) col) x.behind
          m.found.items;
      same =
          renders_append (emit_node_events n) (emit_nodes_events ns) (node_events x.node) (nodes_events m.found.nodes)
          x.same m.found.same;
    }

-- none is left
pub no_items_stand : (text : List ℕ) (d c i e j : ℕ) (after : List ℕ) → Rest text i after
    → Ahead text (suc c) e j after → is_item text c j ≡ false → MoreItems text d c i j no_emit_nodes after
no_items_stand text d c i e j after r a end = record {
  k = j;
  ahead = subst (λ q. Ahead text (suc c) q j after) (rest_place a.rest r) a;
  found = record { nodes = no_nodes; items = no_item end (gone a); same = tt };
}

-- no pair is left
pub no_pairs_stand : (text : List ℕ) (d c i e j : ℕ) (after : List ℕ) → Rest text i after
    → Ahead text (suc c) e j after → is_at text c j ≡ false → is_item text c j ≡ false
    → MorePairs text d c i j no_emit_pairs after
no_pairs_stand text d c i e j after r a un no_dash = record {
  k = j;
  ahead = subst (λ q. Ahead text (suc c) q j after) (rest_place a.rest r) a;
  no_dash = no_dash;
  found = record { pairs = no_pairs; entries = no_entry un (gone a); same = tt };
}

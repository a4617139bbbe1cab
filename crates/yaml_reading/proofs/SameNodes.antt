-- Nodes with the same events are the same, and so are documents.
use Rattle.std.proofs.Common.{◌≡◌, ◌==◌, ℕ, false, List, [], ◌∷◌, ◌++◌, refl, sym, ap, ap₂, ◌∙◌, append_assoc}
use Rattle.std.proofs.lemmas.Bool.{eq-eqb, false≢true}
use Rattle.yaml_base.specs.PlainEvent.{PlainEvent, PlainScalar, document_end, document_start, mapping_end}
use Rattle.yaml_base.specs.PlainEvent.{mapping_start, sequence_end, sequence_start, stream_end, stream_start}
use Rattle.yaml_base.specs.PlainEvent as event
use Rattle.yaml_base.specs.Position.{Position}
use Rattle.yaml_grammar.specs.Names.{Names}
use Rattle.yaml_grammar.specs.Nodes.{Document, Marked, Node, Nodes, Pairs, alias, documents_events, events_of}
use Rattle.yaml_grammar.specs.Nodes.{mapping, mark, no_nodes, no_pairs, node, node_events, nodes_events, pair}
use Rattle.yaml_grammar.specs.Nodes.{pairs_events, scalar, sequence}

cons_is : (a b : Marked) (r s : List Marked) → a ∷ r ≡ b ∷ s → (a ≡ b) × (r ≡ s)
cons_is a b r s h = (cc, cc)

marked_is : (x y : PlainEvent) (p q : Position) → ◌≡◌ {A = Marked} (x, p) (y, q) → (x ≡ y) × (p ≡ q)
marked_is x y p q h = (ap (λ (m : Marked). m.0) h, ap (λ (m : Marked). m.1) h)

alias_is : (a b : List ℕ) → event.alias a ≡ event.alias b → a ≡ b
alias_is a b h = cc

scalar_is : (a b : PlainScalar) → event.scalar a ≡ event.scalar b → a ≡ b
scalar_is a b h = cc

sequence_names : (a b : Names) → sequence_start a.anchor a.tag ≡ sequence_start b.anchor b.tag → a ≡ b
sequence_names a b h =
    let anchors : a.anchor ≡ b.anchor = cc in
    let tags : a.tag ≡ b.tag = cc in
    ap₂ (λ x y. record { anchor = x; tag = y }) anchors tags

mapping_names : (a b : Names) → mapping_start a.anchor a.tag ≡ mapping_start b.anchor b.tag → a ≡ b
mapping_names a b h =
    let anchors : a.anchor ≡ b.anchor = cc in
    let tags : a.tag ≡ b.tag = cc in
    ap₂ (λ x y. record { anchor = x; tag = y }) anchors tags

-- the sort of an event, and of the first of several
abbrev sort_of : PlainEvent → ℕ
sort_of (event.alias a) = 0
sort_of (event.scalar s) = 1
sort_of (sequence_start a t) = 2
sort_of sequence_end = 3
sort_of (mapping_start a t) = 4
sort_of mapping_end = 5
sort_of document_start = 6
sort_of document_end = 7
sort_of stream_start = 8
sort_of stream_end = 9

abbrev first_sort : List Marked → ℕ
first_sort [] = 10
first_sort (m ∷ ms) = sort_of m.0

-- events of which the first are of two sorts are not the same
clash : (r s : List Marked) → r ≡ s → (first_sort r == first_sort s) ≡ false → ⊥
clash r s h other = false≢true (sym other ∙ eq-eqb (first_sort r) (first_sort s) (ap first_sort h))

-- no node begins with the end of a collection
no_sequence_end : (m : Node) (p : Position) (r x : List Marked) → (sequence_end, p) ∷ r ≡ node_events m ++ x → ⊥
no_sequence_end (alias q a) p r x h = absurd (clash _ _ h refl)
no_sequence_end (scalar q s) p r x h = absurd (clash _ _ h refl)
no_sequence_end (sequence q names ns e) p r x h = absurd (clash _ _ h refl)
no_sequence_end (mapping q names ps e) p r x h = absurd (clash _ _ h refl)

no_mapping_end : (m : Node) (p : Position) (r x : List Marked) → (mapping_end, p) ∷ r ≡ node_events m ++ x → ⊥
no_mapping_end (alias q a) p r x h = absurd (clash _ _ h refl)
no_mapping_end (scalar q s) p r x h = absurd (clash _ _ h refl)
no_mapping_end (sequence q names ns e) p r x h = absurd (clash _ _ h refl)
no_mapping_end (mapping q names ps e) p r x h = absurd (clash _ _ h refl)

-- the events behind the first of a collection
behind_first : (xs r ys s : List Marked) (a b : Marked) → (xs ++ a ∷ []) ++ r ≡ (ys ++ b ∷ []) ++ s
    → xs ++ (a ∷ r) ≡ ys ++ (b ∷ s)
behind_first xs r ys s a b h = sym (append_assoc xs (a ∷ []) r) ∙ h ∙ append_assoc ys (b ∷ []) s

regrouped : (a b c d : List Marked) (x y : List Marked) → (a ++ b) ++ x ≡ (c ++ d) ++ y → a ++ (b ++ x) ≡ c ++ (d ++ y)
regrouped a b c d x y h = sym (append_assoc a b x) ∙ h ∙ append_assoc c d y

sequence_by : (p q : Position) → p ≡ q → (a b : Names) → a ≡ b → (ns ms : Nodes) → ns ≡ ms → (x y : Position) → x ≡ y
    → sequence p a ns x ≡ sequence q b ms y
sequence_by p q e a b f ns ms g x y h =
    ap₂ (λ p a. sequence p a ns x) e f ∙ ap₂ (λ ns x. sequence q b ns x) g h

mapping_by : (p q : Position) → p ≡ q → (a b : Names) → a ≡ b → (ns ms : Pairs) → ns ≡ ms → (x y : Position) → x ≡ y
    → mapping p a ns x ≡ mapping q b ms y
mapping_by p q e a b f ns ms g x y h =
    ap₂ (λ p a. mapping p a ns x) e f ∙ ap₂ (λ ns x. mapping q b ns x) g h

pair_by : (n m : Node) → n ≡ m → (u v : Node) → u ≡ v → (ns ms : Pairs) → ns ≡ ms → pair n u ns ≡ pair m v ms
pair_by n m e u v f ns ms g = ap₂ (λ n u. pair n u ns) e f ∙ ap (pair m v) g

mutual
  pub same_node : (n m : Node) (r s : List Marked) → node_events n ++ r ≡ node_events m ++ s → (n ≡ m) × (r ≡ s)
  same_node (alias p a) (alias q b) r s h =
      let c = cons_is (event.alias a, p) (event.alias b, q) r s h in
      let e = marked_is (event.alias a) (event.alias b) p q c.0 in
      (ap₂ alias e.1 (alias_is a b e.0), c.1)
  same_node (scalar p a) (scalar q b) r s h =
      let c = cons_is (event.scalar a, p) (event.scalar b, q) r s h in
      let e = marked_is (event.scalar a) (event.scalar b) p q c.0 in
      (ap₂ scalar e.1 (scalar_is a b e.0), c.1)
  same_node (sequence p a ns x) (sequence q b ms y) r s h =
      let c = cons_is (sequence_start a.anchor a.tag, p) (sequence_start b.anchor b.tag, q) _ _ h in
      let e = marked_is (sequence_start a.anchor a.tag) (sequence_start b.anchor b.tag) p q c.0 in
      let t = same_nodes ns ms x y r s (behind_first (nodes_events ns) r (nodes_events ms) s (sequence_end, x)
      (sequence_end, y) c.1) in
      (sequence_by p q e.1 a b (sequence_names a b e.0) ns ms t.0 x y t.1, t.2)
  same_node (mapping p a ns x) (mapping q b ms y) r s h =
      let c = cons_is (mapping_start a.anchor a.tag, p) (mapping_start b.anchor b.tag, q) _ _ h in
      let e = marked_is (mapping_start a.anchor a.tag) (mapping_start b.anchor b.tag) p q c.0 in
      let t = same_pairs ns ms x y r s (behind_first (pairs_events ns) r (pairs_events ms) s (mapping_end, x)
      (mapping_end, y) c.1) in
      (mapping_by p q e.1 a b (mapping_names a b e.0) ns ms t.0 x y t.1, t.2)
  same_node (alias p a) (scalar q b) r s h = absurd (clash _ _ h refl)
  same_node (alias p a) (sequence q b ms y) r s h = absurd (clash _ _ h refl)
  same_node (alias p a) (mapping q b ms y) r s h = absurd (clash _ _ h refl)
  same_node (scalar p a) (alias q b) r s h = absurd (clash _ _ h refl)
  same_node (scalar p a) (sequence q b ms y) r s h = absurd (clash _ _ h refl)
  same_node (scalar p a) (mapping q b ms y) r s h = absurd (clash _ _ h refl)
  same_node (sequence p a ns x) (alias q b) r s h = absurd (clash _ _ h refl)
  same_node (sequence p a ns x) (scalar q b) r s h = absurd (clash _ _ h refl)
  same_node (sequence p a ns x) (mapping q b ms y) r s h = absurd (clash _ _ h refl)
  same_node (mapping p a ns x) (alias q b) r s h = absurd (clash _ _ h refl)
  same_node (mapping p a ns x) (scalar q b) r s h = absurd (clash _ _ h refl)
  same_node (mapping p a ns x) (sequence q b ms y) r s h = absurd (clash _ _ h refl)

  same_nodes : (ns ms : Nodes) (x y : Position) (r s : List Marked)
      → nodes_events ns ++ ((sequence_end, x) ∷ r) ≡ nodes_events ms ++ ((sequence_end, y) ∷ s)
      → (ns ≡ ms) × (x ≡ y) × (r ≡ s)
  same_nodes no_nodes no_nodes x y r s h =
      let c = cons_is (sequence_end, x) (sequence_end, y) r s h in
      (refl, (marked_is sequence_end sequence_end x y c.0).1, c.1)
  same_nodes no_nodes (node m ms) x y r s h =
      absurd (no_sequence_end m x r _ (h ∙ append_assoc (node_events m) (nodes_events ms) _))
  same_nodes (node n ns) no_nodes x y r s h =
      absurd (no_sequence_end n y s _ (sym h ∙ append_assoc (node_events n) (nodes_events ns) _))
  same_nodes (node n ns) (node m ms) x y r s h =
      let first = same_node n m _ _ (regrouped (node_events n) (nodes_events ns) (node_events m) (nodes_events ms) _ _
      h) in
      let others = same_nodes ns ms x y r s first.1 in
      (ap₂ node first.0 others.0, others.1, others.2)

  same_pairs : (ns ms : Pairs) (x y : Position) (r s : List Marked)
      → pairs_events ns ++ ((mapping_end, x) ∷ r) ≡ pairs_events ms ++ ((mapping_end, y) ∷ s)
      → (ns ≡ ms) × (x ≡ y) × (r ≡ s)
  same_pairs no_pairs no_pairs x y r s h =
      let c = cons_is (mapping_end, x) (mapping_end, y) r s h in
      (refl, (marked_is mapping_end mapping_end x y c.0).1, c.1)
  same_pairs no_pairs (pair m v ms) x y r s h =
      absurd (no_mapping_end m x r _ (h ∙ append_assoc (node_events m) (node_events v ++ pairs_events ms) _))
  same_pairs (pair n u ns) no_pairs x y r s h =
      absurd (no_mapping_end n y s _ (sym h ∙ append_assoc (node_events n) (node_events u ++ pairs_events ns) _))
  same_pairs (pair n u ns) (pair m v ms) x y r s h =
      let first = same_node n m _ _ (regrouped (node_events n) (node_events u ++ pairs_events ns) (node_events m)
      (node_events v ++ pairs_events ms) _ _ h) in
      let second = same_node u v _ _ (regrouped (node_events u) (pairs_events ns) (node_events v) (pairs_events ms) _
      _ first.1) in
      let others = same_pairs ns ms x y r s second.1 in
      (pair_by n m first.0 u v second.0 ns ms others.0, others.1, others.2)

-- of one document after another
documents_by : (a b : Document) → a.start ≡ b.start → a.root ≡ b.root → a.end ≡ b.end → a ≡ b
documents_by a b p q r =
    ap (λ x. record { start = x; root = a.root; end = a.end }) p
    ∙ ap₂ (λ x y. record { start = b.start; root = x; end = y }) q r

pub same_documents : (cs ds : List Document) (x y : Position)
    → documents_events cs ++ ((stream_end, x) ∷ []) ≡ documents_events ds ++ ((stream_end, y) ∷ []) → cs ≡ ds
same_documents [] [] x y h = refl
same_documents [] (b ∷ ds) x y h = absurd (clash _ _ h refl)
same_documents (a ∷ cs) [] x y h = absurd (clash _ _ h refl)
same_documents (a ∷ cs) (b ∷ ds) x y h =
    let c = cons_is (document_start, a.start) (document_start, b.start) _ _ h in
    let starts = (marked_is document_start document_start a.start b.start c.0).1 in
    let first = same_node a.root b.root _ _ (regrouped (node_events a.root)
    ((document_end, a.end) ∷ documents_events cs)
    (node_events b.root) ((document_end, b.end) ∷ documents_events ds) _ _ c.1) in
    let d = cons_is (document_end, a.end) (document_end, b.end) _ _ first.1 in
    let ends = (marked_is document_end document_end a.end b.end d.0).1 in
    ap₂ (λ x xs. x ∷ xs) (documents_by a b starts first.0 ends) (same_documents cs ds x y d.1)

-- documents of one text with the same events
pub same_events : (text : List ℕ) (cs ds : List Document) → events_of text cs ≡ events_of text ds → cs ≡ ds
same_events text cs ds h =
    let c = cons_is (stream_start, mark text 0) (stream_start, mark text 0) _ _ h in
    same_documents cs ds _ _ c.1

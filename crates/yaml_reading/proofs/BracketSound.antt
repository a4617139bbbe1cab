-- What is read in brackets stands there.
use Rattle.std.proofs.Common.{◌≡◌, ℕ, zero, suc, ◌==◌, not, Bool, true, false, List, ◌++◌, length, Option}
use Rattle.std.proofs.Common.{Some, None, refl, sym, ap, ◌∙◌, subst, codes, append_assoc, append-nil}
use Rattle.std.specs.Prelude.{nat_lt}
use Rattle.std.proofs.lemmas.Bool.{and_parts, eqb-true, not-true}
use Rattle.yaml_base.specs.PlainEvent.{mapping_end, mapping_start, sequence_end, sequence_start}
use Rattle.yaml_grammar.specs.Brackets.{Brackets, FlowEntries, FlowEntry, FlowItem, FlowItems, FlowNode, FlowPair}
use Rattle.yaml_grammar.specs.Brackets.{FlowValue, a_flow_entry, a_flow_item, a_flow_value, a_pair, a_single, curly}
use Rattle.yaml_grammar.specs.Brackets.{begins_collection, flow_collection, flow_key_alone, flow_leaf, flow_names}
use Rattle.yaml_grammar.specs.Brackets.{has_colon}
use Rattle.yaml_grammar.specs.Brackets.{key_and_value, no_flow_entry, no_flow_item, no_flow_value, nothing_here}
use Rattle.yaml_grammar.specs.Brackets.{part_after, square, whole_entry}
use Rattle.yaml_grammar.specs.Bytes.{at, is_one_of}
use Rattle.yaml_grammar.specs.Gaps.{breaks, next}
use Rattle.yaml_grammar.specs.Leaves.{Leaf, leaf_at, leaf_node}
use Rattle.yaml_grammar.specs.Names.{Names, names_at, unnamed}
use Rattle.yaml_grammar.specs.Nodes.{Marked, Node, Nodes, Pairs, mapping, mark, no_nodes, no_pairs, node, node_events}
use Rattle.yaml_grammar.specs.Nodes.{nodes_events, pair, pairs_events, sequence}
use Rattle.yaml_grammar.specs.Plain.{in_brackets}
use Rattle.yaml_reading.specs.BracketReader.{brackets_at, brackets_step, closed_by, entry_step, flow_at}
use Rattle.yaml_reading.specs.BracketReader.{flow_step, is_pair, item_step, names_step, pair_at, pair_begun}
use Rattle.yaml_reading.specs.BracketReader.{pair_item_at, pair_step, parts_at, parts_step, value_at, value_step}
use Rattle.yaml_reading.specs.Readers.{Reader, alone, and_event, and_node, no_more, with_leaf}
use Rattle.yaml_reading.proofs.BracketSteps.{between, brackets_are, entries_within, entry_is, flow_behind_is, flow_is}
use Rattle.yaml_reading.proofs.BracketSteps.{item_is, items_within, no_brackets, no_pair_item, one_pair, pair_at_is}
use Rattle.yaml_reading.proofs.BracketSteps.{pair_item_is, parts_are, value_is}
use Rattle.yaml_reading.proofs.Options.{map_some, no_some, pair_is, then_some}

-- a leaf that was read behind its names
pub record IsLeaf (text : List ℕ) (i : ℕ) (names : Names) (leaf : Option (Leaf × ℕ)) (es es' : List Marked) (e : ℕ) :
    Type 0 where
  pub x : Leaf
  pub n : Node
  pub found : leaf ≡ Some (x, e)
  pub is : leaf_node text i names x e ≡ Some n
  pub said : es' ≡ and_node es n

pub leaf_read : (text : List ℕ) (es : List Marked) (i : ℕ) (names : Names) (leaf : Option (Leaf × ℕ))
    (es' : List Marked)
    (e : ℕ) → with_leaf text es i names leaf ≡ Some (es', e) → IsLeaf text i names leaf es es' e
leaf_read text es i names leaf es' e h =
    let l = then_some leaf _ (es', e) h in
    let n = map_some (leaf_node text i names l.0.0 l.0.1) _ (es', e) l.2 in
    let r = pair_is (and_node es n.0) es' l.0.1 e (ap Some n.2) in
    record {
      x = l.0.0;
      n = n.0;
      found = l.1 ∙ ap (λ j. Some (l.0.0, j)) r.1;
      is = ap (leaf_node text i names l.0.0) (sym r.1) ∙ n.1;
      said = sym r.0;
    }

module _ (text : List ℕ) where
  pub record IsFlow (d i j : ℕ) (es es' : List Marked) : Type 0 where
    pub n : Node
    pub stands : FlowNode text d i j n
    pub said : es' ≡ and_node es n

  pub record IsBrackets (d i : ℕ) (names : Names) (k j : ℕ) (es es' : List Marked) : Type 0 where
    pub n : Node
    pub stands : Brackets text d i names k j n
    pub said : es' ≡ and_node es n

  record IsItem (d i j : ℕ) (es es' : List Marked) : Type 0 where
    n : Node
    stands : FlowItem text d i j n
    said : es' ≡ and_node es n

  record IsValue (d i j : ℕ) (es es' : List Marked) : Type 0 where
    n : Node
    stands : FlowValue text d i j n
    said : es' ≡ and_node es n

  record IsPair (d i j : ℕ) (es es' : List Marked) : Type 0 where
    y : Node
    n : Node
    stands : FlowPair text d i j y n
    said : es' ≡ and_node (and_node es y) n

  record IsEntry (d i j : ℕ) (es es' : List Marked) : Type 0 where
    y : Node
    n : Node
    stands : FlowEntry text d i j y n
    said : es' ≡ and_node (and_node es y) n

  record AreItems (d i e : ℕ) (es es' : List Marked) : Type 0 where
    ns : Nodes
    stand : FlowItems text d i e ns
    said : es' ≡ es ++ nodes_events ns

  record AreEntries (d i e : ℕ) (es es' : List Marked) : Type 0 where
    ps : Pairs
    stand : FlowEntries text d i e ps
    said : es' ≡ es ++ pairs_events ps

  -- what is read within so many nestings stands there
  abbrev pub BracketsSound : (d : ℕ) → Type 0
  BracketsSound d =
      (names : Names) (i : ℕ) (es : List Marked) (k : ℕ) (es' : List Marked) (j : ℕ)
      → brackets_at text d names i es k ≡ Some (es', j) → IsBrackets d i names k j es es'

  abbrev FlowSound : (d : ℕ) → Type 0
  FlowSound d =
      (es : List Marked) (i : ℕ) (es' : List Marked) (j : ℕ) → flow_at text (brackets_at text d) es i ≡ Some (es', j)
      → IsFlow d i j es es'

  abbrev ItemSound : (d : ℕ) → Reader → Type 0
  ItemSound d read =
      (es : List Marked) (i : ℕ) (es' : List Marked) (j : ℕ) → read es i ≡ Some (es', j) → IsItem d i j es es'

  -- the same where no collection begins
  abbrev PairSound : (d : ℕ) → Reader → Type 0
  PairSound d read =
      (es : List Marked) (i : ℕ) (es' : List Marked) (j : ℕ) → begins_collection text i ≡ false
      → read es i ≡ Some (es', j) → IsItem d i j es es'

  names_by : (d : ℕ) (es : List Marked) (i : ℕ) (names : Names) (p : ℕ) (es' : List Marked) (j : ℕ) (x : Bool)
      → names_at text true i ≡ Some (names, p) → nat_lt i p ≡ x → breaks text p ≡ false
      → is_one_of (codes ",]}:") (at text (next text p)) ≡ true → names_step text es i p names x ≡ Some (es', j)
      → IsFlow d i j es es'
  names_by d es i names p es' j true h some line ends r =
      let q = pair_is (and_node es (alone text i p names)) es' p j r in
      record {
        n = alone text i p names;
        stands = subst (λ j. FlowNode text d i j (alone text i p names)) q.1 (flow_names h some line ends);
        said = sym q.0;
      }
  names_by d es i names p es' j false h some line ends r = absurd (no_some (es', j) r)

  flow_by : (d : ℕ) → BracketsSound d → (es : List Marked) (i : ℕ) (names : Names) (p : ℕ) (es' : List Marked) (j : ℕ)
      (x y z : Bool) → names_at text true i ≡ Some (names, p) → breaks text p ≡ x
      → is_one_of (codes ",]}:") (at text (next text p)) ≡ z
      → flow_step text (brackets_at text d) es i names p x y z ≡ Some (es', j) → IsFlow d i j es es'
  flow_by d sound es i names p es' j true y z h line ends r = absurd (no_some (es', j) r)
  flow_by d sound es i names p es' j false true z h line ends r =
      let b = sound names i es (next text p) es' j r in
      record { n = b.n; stands = flow_collection h line b.stands; said = b.said }
  flow_by d sound es i names p es' j false false true h line ends r = names_by d es i names p es' j _ h refl line ends r
  flow_by d sound es i names p es' j false false false h line ends r =
      let l = leaf_read text es i names (leaf_at text in_brackets (next text p)) es' j r in
      record { n = l.n; stands = flow_leaf h line l.found l.is; said = l.said }

  pub flow_sound : (d : ℕ) → BracketsSound d → FlowSound d
  flow_sound d sound es i es' j h =
      let t = then_some (names_at text true i) _ (es', j) (sym (flow_is text (brackets_at text d) es i _ refl) ∙ h) in
      flow_by d sound es i t.0.0 t.0.1 es' j _ _ _ t.1 refl refl
      (sym (flow_behind_is text (brackets_at text d) es i t.0.0 t.0.1 _ _ _ refl refl refl) ∙ t.2)

  value_by : (d : ℕ) → FlowSound d → (es : List Marked) (i : ℕ) (es' : List Marked) (j : ℕ) (x : Bool)
      → is_one_of (codes ",]}") (at text i) ≡ x
      → value_step text (flow_at text (brackets_at text d)) es i x ≡ Some (es', j) → IsValue d i j es es'
  value_by d sound es i es' j true e h =
      let q = pair_is (and_node es (nothing_here text i)) es' i j h in
      record {
        n = nothing_here text i;
        stands = subst (λ j. FlowValue text d i j (nothing_here text i)) q.1 (no_flow_value e);
        said = sym q.0;
      }
  value_by d sound es i es' j false e h =
      let s = sound es i es' j h in
      record { n = s.n; stands = a_flow_value s.stands; said = s.said }

  value_sound : (d : ℕ) → FlowSound d → (es : List Marked) (i : ℕ) (es' : List Marked) (j : ℕ)
      → value_at text (flow_at text (brackets_at text d)) es i ≡ Some (es', j) → IsValue d i j es es'
  value_sound d sound es i es' j h =
      value_by d sound es i es' j _ refl (sym (value_is text (flow_at text (brackets_at text d)) es i _ refl) ∙ h)

  pair_by : (d : ℕ) → FlowSound d → (es : List Marked) (i k : ℕ) (ks es' : List Marked) (j : ℕ) (x : Bool)
      → IsFlow d i k es ks → has_colon text i k ≡ x
      → pair_step text (flow_at text (brackets_at text d)) ks k x ≡ Some (es', j) → IsPair d i j es es'
  pair_by d sound es i k ks es' j true key colon h =
      let v = value_sound d sound ks (next text (suc (next text k))) es' j h in
      record {
        y = key.n;
        n = v.n;
        stands = key_and_value key.stands colon v.stands;
        said = v.said ∙ ap (λ l. and_node l v.n) key.said;
      }
  pair_by d sound es i k ks es' j false key colon h = absurd (no_some (es', j) h)

  pair_sound : (d : ℕ) → FlowSound d → (es : List Marked) (i : ℕ) (es' : List Marked) (j : ℕ)
      → pair_at text (flow_at text (brackets_at text d)) es i ≡ Some (es', j) → IsPair d i j es es'
  pair_sound d sound es i es' j h =
      let t = then_some (flow_at text (brackets_at text d) es i) _ (es', j)
      (sym (pair_at_is text (flow_at text (brackets_at text d)) es i _ refl) ∙ h) in
      pair_by d sound es i t.0.1 t.0.0 es' j _ (sound es i t.0.0 t.0.1 t.1) refl t.2

  entry_by : (d : ℕ) → FlowSound d → (es : List Marked) (i k : ℕ) (ks es' : List Marked) (j : ℕ) (x : Bool)
      → IsFlow d i k es ks → has_colon text i k ≡ x
      → entry_step text (flow_at text (brackets_at text d)) ks k x ≡ Some (es', j) → IsEntry d i j es es'
  entry_by d sound es i k ks es' j true key colon h =
      let p = pair_by d sound es i k ks es' j true key colon h in
      record { y = p.y; n = p.n; stands = whole_entry p.stands; said = p.said }
  entry_by d sound es i k ks es' j false key colon h =
      let nothing = nothing_here text (next text k) in
      let q = pair_is (and_node ks nothing) es' k j h in
      record {
        y = key.n;
        n = nothing;
        stands = subst (λ j. FlowEntry text d i j key.n nothing) q.1 (flow_key_alone key.stands);
        said = sym q.0 ∙ ap (λ l. and_node l nothing) key.said;
      }

  entry_sound : (d : ℕ) → FlowSound d → (es : List Marked) (i : ℕ) (es' : List Marked) (j : ℕ)
      → entries_within text d es i ≡ Some (es', j) → IsEntry d i j es es'
  entry_sound d sound es i es' j h =
      let t = then_some (flow_at text (brackets_at text d) es i) _ (es', j)
      (sym (entry_is text (flow_at text (brackets_at text d)) es i _ refl) ∙ h) in
      entry_by d sound es i t.0.1 t.0.0 es' j _ (sound es i t.0.0 t.0.1 t.1) refl t.2

  item_by : (d : ℕ) → PairSound d (pair_item_at text d) → (es : List Marked) (i k : ℕ) (ks es' : List Marked) (j : ℕ)
      (x : Bool) → IsFlow d i k es ks → is_pair text i k ≡ x
      → item_step (pair_item_at text d) es i ks k x ≡ Some (es', j) → IsItem d i j es es'
  item_by d pairs es i k ks es' j true key is h =
      pairs es i es' j (not-true (begins_collection text i) (and_parts (not (begins_collection text i)) _ is).0) h
  item_by d pairs es i k ks es' j false key is h =
      let q = pair_is ks es' k j h in
      record {
        n = key.n;
        stands = subst (λ j. FlowItem text d i j key.n) q.1 (a_single key.stands);
        said = sym q.0 ∙ key.said;
      }

  item_sound : (d : ℕ) → FlowSound d → PairSound d (pair_item_at text d) → ItemSound d (items_within text d)
  item_sound d sound pairs es i es' j h =
      let t = then_some (flow_at text (brackets_at text d) es i) _ (es', j)
      (sym (item_is text (flow_at text (brackets_at text d)) (pair_item_at text d) es i _ refl) ∙ h) in
      item_by d pairs es i t.0.1 t.0.0 es' j _ (sound es i t.0.0 t.0.1 t.1) refl t.2

  pair_item_sound : (d : ℕ) → FlowSound d → PairSound (suc d) (pair_item_at text (suc d))
  pair_item_sound d sound es i es' j none h =
      let t = map_some (pair_at text (flow_at text (brackets_at text d)) (pair_begun text es i) i) _ (es', j)
      (sym (pair_item_is text d es i) ∙ h) in
      let p = pair_sound d sound (pair_begun text es i) i t.0.0 t.0.1 t.1 in
      let end : Marked = (mapping_end, mark text (next text t.0.1)) in
      let q = pair_is (and_event t.0.0 end) es' t.0.1 j (ap Some t.2) in
      record {
        n = mapping (mark text i) unnamed (pair p.y p.n no_pairs) (mark text (next text t.0.1));
        stands = subst (λ j. FlowItem text (suc d) i j
            (mapping (mark text i) unnamed (pair p.y p.n no_pairs) (mark text (next text t.0.1)))) q.1
            (a_pair none p.stands);
        said = sym q.0 ∙ ap (λ l. and_event l end) p.said
            ∙ one_pair es (node_events p.y) (node_events p.n) (mapping_start None None, mark text i) end;
      }

  items_by : (d : ℕ) → ItemSound d (items_within text d) → (more : Reader)
      → ((es : List Marked) (i : ℕ) (es' : List Marked) (e : ℕ) → more es i ≡ Some (es', e) → AreItems d i e es es')
      → (es : List Marked) (i : ℕ) (es' : List Marked) (e : ℕ) (x : Bool) → (at text i == 93) ≡ x
      → parts_step text 93 (items_within text d) more es i x ≡ Some (es', e) → AreItems d i e es es'
  items_by d sound more rest es i es' e true o h =
      let q = pair_is es es' i e h in
      record {
        ns = no_nodes;
        stand = subst (λ e. FlowItems text d i e no_nodes) q.1 (no_flow_item (eqb-true (at text i) 93 o));
        said = sym q.0 ∙ sym (append-nil es);
      }
  items_by d sound more rest es i es' e false o h =
      let b = then_some (items_within text d es i) _ (es', e) h in
      let first = sound es i b.0.0 b.0.1 b.1 in
      let a = then_some (part_after text 93 (next text b.0.1)) (more b.0.0) (es', e) b.2 in
      let others = rest b.0.0 a.0 es' e a.2 in
      record {
        ns = node first.n others.ns;
        stand = a_flow_item first.stands a.1 others.stand;
        said = others.said ∙ ap (λ l. l ++ nodes_events others.ns) first.said
            ∙ append_assoc es (node_events first.n) (nodes_events others.ns);
      }

  items_sound : (d : ℕ) → ItemSound d (items_within text d) → (t : ℕ) (es : List Marked) (i : ℕ) (es' : List Marked)
      (e : ℕ) → parts_at text 93 (items_within text d) t es i ≡ Some (es', e) → AreItems d i e es es'
  items_sound d sound zero es i es' e h =
      items_by d sound no_more (λ es i es' e h. absurd (no_some (es', e) h)) es i es' e _ refl
      (sym (parts_are text 93 (items_within text d) zero es i _ refl) ∙ h)
  items_sound d sound (suc t) es i es' e h =
      items_by d sound (parts_at text 93 (items_within text d) t) (items_sound d sound t) es i es' e _ refl
      (sym (parts_are text 93 (items_within text d) (suc t) es i _ refl) ∙ h)

  entries_by : (d : ℕ) → FlowSound d → (more : Reader)
      → ((es : List Marked) (i : ℕ) (es' : List Marked) (e : ℕ) → more es i ≡ Some (es', e) → AreEntries d i e es es')
      → (es : List Marked) (i : ℕ) (es' : List Marked) (e : ℕ) (x : Bool) → (at text i == 125) ≡ x
      → parts_step text 125 (entries_within text d) more es i x ≡ Some (es', e) → AreEntries d i e es es'
  entries_by d sound more rest es i es' e true o h =
      let q = pair_is es es' i e h in
      record {
        ps = no_pairs;
        stand = subst (λ e. FlowEntries text d i e no_pairs) q.1 (no_flow_entry (eqb-true (at text i) 125 o));
        said = sym q.0 ∙ sym (append-nil es);
      }
  entries_by d sound more rest es i es' e false o h =
      let b = then_some (entries_within text d es i) _ (es', e) h in
      let first = entry_sound d sound es i b.0.0 b.0.1 b.1 in
      let a = then_some (part_after text 125 (next text b.0.1)) (more b.0.0) (es', e) b.2 in
      let others = rest b.0.0 a.0 es' e a.2 in
      record {
        ps = pair first.y first.n others.ps;
        stand = a_flow_entry first.stands a.1 others.stand;
        said = others.said ∙ ap (λ l. l ++ pairs_events others.ps) first.said
            ∙ append_assoc (and_node es first.y) (node_events first.n) (pairs_events others.ps)
            ∙ append_assoc es (node_events first.y) (node_events first.n ++ pairs_events others.ps);
      }

  entries_sound : (d : ℕ) → FlowSound d → (t : ℕ) (es : List Marked) (i : ℕ) (es' : List Marked) (e : ℕ)
      → parts_at text 125 (entries_within text d) t es i ≡ Some (es', e) → AreEntries d i e es es'
  entries_sound d sound zero es i es' e h =
      entries_by d sound no_more (λ es i es' e h. absurd (no_some (es', e) h)) es i es' e _ refl
      (sym (parts_are text 125 (entries_within text d) zero es i _ refl) ∙ h)
  entries_sound d sound (suc t) es i es' e h =
      entries_by d sound (parts_at text 125 (entries_within text d) t) (entries_sound d sound t) es i es' e _ refl
      (sym (parts_are text 125 (entries_within text d) (suc t) es i _ refl) ∙ h)

  square_by : (d : ℕ) → ItemSound d (items_within text d) → (names : Names) (i : ℕ) (es : List Marked) (k : ℕ)
      (es' : List Marked) (j : ℕ) → at text k ≡ 91
      → closed_by text sequence_end (parts_at text 93 (items_within text d) (length text)
      (and_event es (sequence_start names.anchor names.tag, mark text i)) (next text (suc k))) ≡ Some (es', j)
      → IsBrackets (suc d) i names k j es es'
  square_by d sound names i es k es' j o h =
      let start : Marked = (sequence_start names.anchor names.tag, mark text i) in
      let t = map_some _ _ (es', j) h in
      let r = items_sound d sound (length text) (and_event es start) (next text (suc k)) t.0.0 t.0.1 t.1 in
      let end : Marked = (sequence_end, mark text t.0.1) in
      let q = pair_is (and_event t.0.0 end) es' (suc t.0.1) j (ap Some t.2) in
      record {
        n = sequence (mark text i) names r.ns (mark text t.0.1);
        stands = subst (λ j. Brackets text (suc d) i names k j (sequence (mark text i) names r.ns (mark text t.0.1)))
            q.1
            (square o r.stand);
        said = sym q.0 ∙ ap (λ l. and_event l end) r.said ∙ between es (nodes_events r.ns) start end;
      }

  curly_by : (d : ℕ) → FlowSound d → (names : Names) (i : ℕ) (es : List Marked) (k : ℕ) (es' : List Marked) (j : ℕ)
      → at text k ≡ 123
      → closed_by text mapping_end (parts_at text 125 (entries_within text d) (length text)
      (and_event es (mapping_start names.anchor names.tag, mark text i)) (next text (suc k))) ≡ Some (es', j)
      → IsBrackets (suc d) i names k j es es'
  curly_by d sound names i es k es' j o h =
      let start : Marked = (mapping_start names.anchor names.tag, mark text i) in
      let t = map_some _ _ (es', j) h in
      let r = entries_sound d sound (length text) (and_event es start) (next text (suc k)) t.0.0 t.0.1 t.1 in
      let end : Marked = (mapping_end, mark text t.0.1) in
      let q = pair_is (and_event t.0.0 end) es' (suc t.0.1) j (ap Some t.2) in
      record {
        n = mapping (mark text i) names r.ps (mark text t.0.1);
        stands = subst (λ j. Brackets text (suc d) i names k j (mapping (mark text i) names r.ps (mark text t.0.1))) q.1
            (curly o r.stand);
        said = sym q.0 ∙ ap (λ l. and_event l end) r.said ∙ between es (pairs_events r.ps) start end;
      }

  brackets_by : (d : ℕ) → FlowSound d → ItemSound d (items_within text d) → (names : Names) (i : ℕ) (es : List Marked)
      (k : ℕ) (es' : List Marked) (j : ℕ) (x y : Bool) → (at text k == 91) ≡ x → (at text k == 123) ≡ y
      → brackets_step text (items_within text d) (entries_within text d) names i es k x y ≡ Some (es', j)
      → IsBrackets (suc d) i names k j es es'
  brackets_by d sound items names i es k es' j true y e f h =
      square_by d items names i es k es' j (eqb-true (at text k) 91 e) h
  brackets_by d sound items names i es k es' j false true e f h =
      curly_by d sound names i es k es' j (eqb-true (at text k) 123 f) h
  brackets_by d sound items names i es k es' j false false e f h = absurd (no_some (es', j) h)

  brackets_behind : (d : ℕ) → FlowSound d → PairSound d (pair_item_at text d) → BracketsSound (suc d)
  brackets_behind d sound pairs names i es k es' j h =
      brackets_by d sound (item_sound d sound pairs) names i es k es' j _ _ refl refl
      (sym (brackets_are text d names i es k _ _ refl refl) ∙ h)

  mutual
    pub brackets_sound : (d : ℕ) → BracketsSound d
    brackets_sound zero = λ names i es k es' j h. absurd (no_some (es', j) (sym (no_brackets text names i es k) ∙ h))
    brackets_sound (suc d) = brackets_behind d (flow_sound d (brackets_sound d)) (pairs_within_sound d)

    pairs_within_sound : (d : ℕ) → PairSound d (pair_item_at text d)
    pairs_within_sound zero = λ es i es' j none h. absurd (no_some (es', j) (sym (no_pair_item text es i) ∙ h))
    pairs_within_sound (suc d) = pair_item_sound d (flow_sound d (brackets_sound d))

-- What stands in brackets is read.
use Rattle.std.proofs.Common.{◌≡◌, ◌≢◌, ℕ, zero, suc, ◌+◌, ◌≤◌, ◌==◌, ◌&&◌, not, Bool, true, false, List}
use Rattle.std.proofs.Common.{◌++◌, length, Option, Some, None, refl, sym, ap, ◌∙◌, arith, codes, inl, inr}
use Rattle.std.proofs.Common.{append_assoc, append-nil, ne_eqb}
use Rattle.std.specs.Prelude.{if◌then◌else◌, option_and_then}
use Rattle.std.proofs.lemmas.Bool.{false≢true, and_left, eqb-true, eq-eqb, false_from_ne_true, or_cases, or_from}
use Rattle.yaml_base.specs.PlainEvent.{mapping_end, mapping_start, sequence_end, sequence_start}
use Rattle.yaml_grammar.specs.Brackets.{Brackets, FlowEntries, FlowEntry, FlowItem, FlowItems, FlowNode, FlowPair}
use Rattle.yaml_grammar.specs.Brackets.{FlowValue, a_flow_entry, a_flow_item, a_flow_value, a_pair, a_single, curly}
use Rattle.yaml_grammar.specs.Brackets.{begins_collection, flow_collection, flow_key_alone, flow_leaf, flow_names}
use Rattle.yaml_grammar.specs.Brackets.{has_colon}
use Rattle.yaml_grammar.specs.Brackets.{key_and_value, no_flow_entry, no_flow_item, no_flow_value}
use Rattle.yaml_grammar.specs.Brackets.{part_after, square, whole_entry}
use Rattle.yaml_grammar.specs.Bytes.{at, is_one_of}
use Rattle.yaml_grammar.specs.Gaps.{next}
use Rattle.yaml_grammar.specs.Leaves.{Leaf, leaf_at, leaf_node}
use Rattle.yaml_grammar.specs.Names.{Names}
use Rattle.yaml_grammar.specs.Nodes.{Marked, Node, Nodes, Pairs, mark, node_events, nodes_events, pairs_events}
use Rattle.yaml_grammar.specs.Plain.{in_brackets}
use Rattle.yaml_reading.specs.BracketReader.{brackets_at, closed_by, entry_step, flow_at, item_step}
use Rattle.yaml_reading.specs.BracketReader.{names_step, pair_at, pair_begun, pair_ended, pair_item_at, pair_step}
use Rattle.yaml_reading.specs.BracketReader.{parts_at, parts_then}
use Rattle.yaml_reading.specs.BracketReader.{value_at}
use Rattle.yaml_reading.specs.Readers.{and_event, and_node, opens, with_leaf}
use Rattle.yaml_reading.specs.Readers.{with_node}
use Rattle.yaml_reading.proofs.Begins.{byte_behind, leaf_no, no_leaf_colon}
use Rattle.yaml_reading.proofs.BracketForward.{entry_forward, entry_not, flow_not, item_forward, item_not, next_ahead}
use Rattle.yaml_reading.proofs.BracketForward.{part_ahead, part_behind}
use Rattle.yaml_reading.proofs.BracketSteps.{between, brackets_are, entries_within, entry_is, flow_behind_is, flow_is}
use Rattle.yaml_reading.proofs.BracketSteps.{item_is, items_within, one_pair, pair_at_is, pair_item_is, parts_are}
use Rattle.yaml_reading.proofs.BracketSteps.{value_is}
use Rattle.yaml_reading.proofs.Options.{no_some}

-- one of these bytes is none of those
not_both : (p q : ℕ → Bool) (c : ℕ) → ((c : ℕ) → p c ≡ true → q c ≡ true → ⊥) → p c ≡ true → q c ≡ false
not_both p q c f h = false_from_ne_true (q c) (λ e. f c h e)

no_open : (c : ℕ) → is_one_of (codes ",]}:") c ≡ true → opens c ≡ true → ⊥
no_open c e o = elim (or_cases (c == 91) (c == 123) o) [
  | inl h ↦ false≢true (sym (ap (is_one_of (codes ",]}:")) (eqb-true c 91 h)) ∙ e)
  | inr h ↦ false≢true (sym (ap (is_one_of (codes ",]}:")) (eqb-true c 123 h)) ∙ e)
]

-- an item is the key of a pair, or none
no_key : (x y : Bool) → y ≡ false → (not x && y) ≡ false
no_key true y e = refl
no_key false y e = e

a_key : (x y : Bool) → x ≡ false → y ≡ true → (not x && y) ≡ true
a_key x y e f = rw (e, f) refl

module _ (text : List ℕ) where
  leaf_opens : (q : ℕ) (r : Leaf × ℕ) → leaf_at text in_brackets q ≡ Some r → opens (at text q) ≡ false
  leaf_opens q r h =
      or_from (at text q == 91) (at text q == 123) (ne_eqb (at text q) 91 (leaf_no text in_brackets q 91 r h refl))
      (ne_eqb (at text q) 123 (leaf_no text in_brackets q 123 r h refl))

  leaf_ends : (q : ℕ) (r : Leaf × ℕ) → leaf_at text in_brackets q ≡ Some r
      → is_one_of (codes ",]}:") (at text q) ≡ false
  leaf_ends q r h =
      let no : (c : ℕ) → at text q ≢ c → (at text q == c) ≡ false = λ c e. ne_eqb (at text q) c e in
      or_from (at text q == 44) _ (no 44 (leaf_no text in_brackets q 44 r h refl))
      (or_from (at text q == 93) _ (no 93 (leaf_no text in_brackets q 93 r h refl))
      (or_from (at text q == 125) _ (no 125 (leaf_no text in_brackets q 125 r h refl))
      (or_from (at text q == 58) false (no 58 (λ e. no_some r (sym (no_leaf_colon text q e) ∙ h))) refl)))

  pub bracket_opens : {d i k j : ℕ} {names : Names} {n : Node} → Brackets text d i names k j n
      → opens (at text k) ≡ true
  bracket_opens (square o items) = rw o refl
  bracket_opens (curly o entries) = rw o refl

  leaf_is : (es : List Marked) (i : ℕ) (names : Names) (leaf : Option (Leaf × ℕ)) (x : Leaf) (e : ℕ) (n : Node)
      → leaf ≡ Some (x, e) → leaf_node text i names x e ≡ Some n
      → with_leaf text es i names leaf ≡ Some (and_node es n, e)
  leaf_is es i names leaf x e n h is = ap (with_leaf text es i names) h ∙ ap (with_node es e) is

  -- behind a part no `:` stands
  no_colon : (i j k close : ℕ) → (close == 58) ≡ false → part_after text close (next text j) ≡ Some k
      → has_colon text i j ≡ false
  no_colon i j k close other h =
      let q = next text j in
      and_left (at text q == 58) _ (by_byte q (at text q == close) refl h)
    where
      by_comma : (q : ℕ) (b : Bool) → (at text q == 44) ≡ b → (if b then Some (next text (suc q)) else None) ≡ Some k
          → (at text q == 58) ≡ false
      by_comma q true e f = ap (λ c. c == 58) (eqb-true (at text q) 44 e)
      by_comma q false e f = absurd (no_some k f)

      by_byte : (q : ℕ) (b : Bool) → (at text q == close) ≡ b
          → (if b then Some q else if at text q == 44 then Some (next text (suc q)) else None) ≡ Some k
          → (at text q == 58) ≡ false
      by_byte q true e f = ap (λ c. c == 58) (eqb-true (at text q) close e) ∙ other
      by_byte q false e f = by_comma q (at text q == 44) refl f

  not_past : (i : ℕ) → at text i ≢ 0 → length text ≤ 0 + i → ⊥
  not_past i some le = some (byte_behind text i (omega (arith, le)))

  -- the turns that are left behind a part
  left : (t : ℕ) {i j k : ℕ} (close : ℕ) → at text i ≢ close → i ≤ j → part_after text close (next text j) ≡ Some k
      → length text ≤ suc t + i → length text ≤ t + k
  left t {i} {j} {k} close other on a le = elim (part_behind text close a) [
    | inl e ↦ further t i k le (λ same. other (ap (at text) same ∙ e))
        (omega (arith, on, next_ahead text j, part_ahead text close a))
    | inr e ↦ omega (arith, on, next_ahead text j, e, le)
  ]
    where
      further : (t i k : ℕ) → length text ≤ suc t + i → (i ≡ k → ⊥) → i ≤ k → length text ≤ t + k
      further t i k le other on = grind (arith, le, other, on)

  value_begins : {d j : ℕ} {n : Node} (i : ℕ) → FlowNode text d i j n → is_one_of (codes ",]}") (at text i) ≡ false
  value_begins i x =
      or_from (at text i == 44) _ (ne_eqb (at text i) 44 (flow_not text 44 refl x))
      (or_from (at text i == 93) _ (ne_eqb (at text i) 93 (flow_not text 93 refl x))
      (or_from (at text i == 125) false (ne_eqb (at text i) 125 (flow_not text 125 refl x)) refl))

  mutual
    pub flow_of : {d i j : ℕ} {n : Node} → FlowNode text d i j n → (m : ℕ) → d ≤ m → (es : List Marked)
        → flow_at text (brackets_at text m) es i ≡ Some (and_node es n, j)
    flow_of (flow_leaf {i = i} {p = p} {e = e} {names = names} {x = x} {n = n} h line leaf is) m le es =
        let q = next text p in
        flow_is text (brackets_at text m) es i _ h
        ∙ flow_behind_is text (brackets_at text m) es i names p false false false line (leaf_opens q (x, e) leaf)
        (leaf_ends q (x, e) leaf)
        ∙ leaf_is es i names (leaf_at text in_brackets q) x e n leaf is
    flow_of (flow_collection {i = i} {p = p} {names = names} h line b) m le es =
        flow_is text (brackets_at text m) es i _ h
        ∙ flow_behind_is text (brackets_at text m) es i names p false true _ line (bracket_opens b) refl
        ∙ brackets_of b m le es
    flow_of (flow_names {i = i} {p = p} {names = names} h some line ends) m le es =
        flow_is text (brackets_at text m) es i _ h
        ∙ flow_behind_is text (brackets_at text m) es i names p false false true line
        (not_both (is_one_of (codes ",]}:")) opens (at text (next text p)) no_open ends) ends
        ∙ ap (names_step text es i p names) some

    pub brackets_of : {d i k j : ℕ} {names : Names} {n : Node} → Brackets text d i names k j n → (m : ℕ) → d ≤ m
        → (es : List Marked) → brackets_at text m names i es k ≡ Some (and_node es n, j)
    brackets_of (square o items) zero le es = absurd (omega (arith, le))
    brackets_of (square {i = i} {k = k} {e = e} {names = names} {ns = ns} o items) (suc m) le es =
        let start : Marked = (sequence_start names.anchor names.tag, mark text i) in
        brackets_are text m names i es k true _ (eq-eqb (at text k) 91 o) refl
        ∙ ap (closed_by text sequence_end)
        (items_of items m (omega (arith, le)) (and_event es start) (length text) (omega arith))
        ∙ ap (λ l. Some (l, suc e)) (between es (nodes_events ns) start (sequence_end, mark text e))
    brackets_of (curly o entries) zero le es = absurd (omega (arith, le))
    brackets_of (curly {i = i} {k = k} {e = e} {names = names} {ps = ps} o entries) (suc m) le es =
        let start : Marked = (mapping_start names.anchor names.tag, mark text i) in
        brackets_are text m names i es k false true (ap (λ c. c == 91) o) (eq-eqb (at text k) 123 o)
        ∙ ap (closed_by text mapping_end)
        (entries_of entries m (omega (arith, le)) (and_event es start) (length text) (omega arith))
        ∙ ap (λ l. Some (l, suc e)) (between es (pairs_events ps) start (mapping_end, mark text e))

    items_of : {d i e : ℕ} {ns : Nodes} → FlowItems text d i e ns → (m : ℕ) → d ≤ m → (es : List Marked) (t : ℕ)
        → length text ≤ t + i → parts_at text 93 (items_within text m) t es i ≡ Some (es ++ nodes_events ns, e)
    items_of (no_flow_item {i = i} o) m le es t on =
        parts_are text 93 (items_within text m) t es i true (eq-eqb (at text i) 93 o)
        ∙ ap (λ l. Some (l, i)) (sym (append-nil es))
    items_of (a_flow_item {i = i} n a ns) m le es zero on = absurd (not_past i (item_not text 0 refl n) on)
    items_of (a_flow_item {i = i} {j = j} {k = k} {e = e} {n = n} {ns = ns} x a rest) m le es (suc t) on =
        parts_are text 93 (items_within text m) (suc t) es i false (ne_eqb (at text i) 93 (item_not text 93 refl x))
        ∙ ap (parts_then text 93 (parts_at text 93 (items_within text m) t))
        (item_of x (no_colon i j k 93 refl a) m le es)
        ∙ ap (option_and_then (parts_at text 93 (items_within text m) t (and_node es n))) a
        ∙ items_of rest m le (and_node es n) t (left t 93 (item_not text 93 refl x) (item_forward text x) a on)
        ∙ ap (λ l. Some (l, e)) (append_assoc es (node_events n) (nodes_events ns))

    item_of : {d i j : ℕ} {n : Node} → FlowItem text d i j n → has_colon text i j ≡ false → (m : ℕ) → d ≤ m
        → (es : List Marked) → items_within text m es i ≡ Some (and_node es n, j)
    item_of (a_single {i = i} {j = j} {n = n} x) colon m le es =
        item_is text (flow_at text (brackets_at text m)) (pair_item_at text m) es i _ (flow_of x m le es)
        ∙ ap (item_step (pair_item_at text m) es i (and_node es n) j) (no_key (begins_collection text i) _ colon)
    item_of (a_pair none p) colon zero le es = absurd (omega (arith, le))
    item_of (a_pair none (key_and_value {i = i} {k = k} {j = j} {m = y} {n = n} x c v)) colon (suc m) le es =
        item_is text (flow_at text (brackets_at text (suc m))) (pair_item_at text (suc m)) es i _
        (flow_of x (suc m) (omega (arith, le)) es)
        ∙ ap (item_step (pair_item_at text (suc m)) es i (and_node es y) k) (a_key (begins_collection text i) _ none c)
        ∙ pair_item_is text m es i
        ∙ ap (pair_ended text) (pair_of (key_and_value x c v) m (omega (arith, le)) (pair_begun text es i))
        ∙ ap (λ l. Some (l, j))
        (one_pair es (node_events y) (node_events n) (mapping_start None None, mark text i)
        (mapping_end, mark text (next text j)))

    pair_of : {d i j : ℕ} {y n : Node} → FlowPair text d i j y n → (m : ℕ) → d ≤ m → (es : List Marked)
        → pair_at text (flow_at text (brackets_at text m)) es i ≡ Some (and_node (and_node es y) n, j)
    pair_of (key_and_value {i = i} {k = k} {m = y} x c v) m le es =
        pair_at_is text (flow_at text (brackets_at text m)) es i _ (flow_of x m le es)
        ∙ ap (pair_step text (flow_at text (brackets_at text m)) (and_node es y) k) c
        ∙ value_of v m le (and_node es y)

    value_of : {d i j : ℕ} {n : Node} → FlowValue text d i j n → (m : ℕ) → d ≤ m → (es : List Marked)
        → value_at text (flow_at text (brackets_at text m)) es i ≡ Some (and_node es n, j)
    value_of (a_flow_value {i = i} x) m le es =
        value_is text (flow_at text (brackets_at text m)) es i false (value_begins i x) ∙ flow_of x m le es
    value_of (no_flow_value {i = i} e) m le es = value_is text (flow_at text (brackets_at text m)) es i true e

    entries_of : {d i e : ℕ} {ps : Pairs} → FlowEntries text d i e ps → (m : ℕ) → d ≤ m → (es : List Marked) (t : ℕ)
        → length text ≤ t + i → parts_at text 125 (entries_within text m) t es i ≡ Some (es ++ pairs_events ps, e)
    entries_of (no_flow_entry {i = i} o) m le es t on =
        parts_are text 125 (entries_within text m) t es i true (eq-eqb (at text i) 125 o)
        ∙ ap (λ l. Some (l, i)) (sym (append-nil es))
    entries_of (a_flow_entry {i = i} n a ns) m le es zero on = absurd (not_past i (entry_not text 0 refl n) on)
    entries_of (a_flow_entry {i = i} {j = j} {k = k} {e = e} {m = y} {n = n} {ps = ps} x a rest) m le es (suc t) on =
        parts_are text 125 (entries_within text m) (suc t) es i false
        (ne_eqb (at text i) 125 (entry_not text 125 refl x))
        ∙ ap (parts_then text 125 (parts_at text 125 (entries_within text m) t))
        (entry_of x (no_colon i j k 125 refl a) m le es)
        ∙ ap (option_and_then (parts_at text 125 (entries_within text m) t (and_node (and_node es y) n))) a
        ∙ entries_of rest m le (and_node (and_node es y) n) t
        (left t 125 (entry_not text 125 refl x) (entry_forward text x) a on)
        ∙ ap (λ l. Some (l, e))
        (append_assoc (and_node es y) (node_events n) (pairs_events ps)
        ∙ append_assoc es (node_events y) (node_events n ++ pairs_events ps))

    entry_of : {d i j : ℕ} {y n : Node} → FlowEntry text d i j y n → has_colon text i j ≡ false → (m : ℕ) → d ≤ m
        → (es : List Marked) → entries_within text m es i ≡ Some (and_node (and_node es y) n, j)
    entry_of (whole_entry (key_and_value {i = i} {k = k} {m = y} x c v)) colon m le es =
        entry_is text (flow_at text (brackets_at text m)) es i _ (flow_of x m le es)
        ∙ ap (entry_step text (flow_at text (brackets_at text m)) (and_node es y) k) c
        ∙ value_of v m le (and_node es y)
    entry_of (flow_key_alone {i = i} {j = j} {m = y} x) colon m le es =
        entry_is text (flow_at text (brackets_at text m)) es i _ (flow_of x m le es)
        ∙ ap (entry_step text (flow_at text (brackets_at text m)) (and_node es y) j) colon

-- The events of what stands in brackets.
use Rattle.std.proofs.Common.{◌≡◌, ℕ, suc, ◌<◌, ◌≤◌, ◌==◌, List, ◌++◌, Option, Some, None, arith, ap, append-nil}
use Rattle.std.proofs.Common.{append_assoc, length, refl, subst, sym, true}
use Rattle.std.specs.Prelude.{if◌then◌else◌}
use Rattle.std.proofs.lemmas.Bool.{and_parts}
use Rattle.yaml_base.specs.PlainEvent.{mapping_end, mapping_start, sequence_end, sequence_start}
use Rattle.yaml_grammar.specs.Brackets.{Brackets, FlowEntries, FlowEntry, FlowItem, FlowItems, FlowNode, FlowPair}
use Rattle.yaml_grammar.specs.Brackets.{FlowValue, a_flow_entry, a_flow_item, a_flow_value, a_pair, a_single, curly}
use Rattle.yaml_grammar.specs.Brackets.{flow_collection, flow_key_alone, flow_leaf, flow_names, key_and_value}
use Rattle.yaml_grammar.specs.Brackets.{no_flow_entry, no_flow_item, no_flow_value, nothing_here, part_after, square}
use Rattle.yaml_grammar.specs.Brackets.{whole_entry}
use Rattle.yaml_grammar.specs.Bytes.{at}
use Rattle.yaml_grammar.specs.Gaps.{next}
use Rattle.yaml_grammar.specs.Names.{Names, unnamed}
use Rattle.yaml_grammar.specs.Nodes.{Marked, Node, Nodes, Pairs, mapping, mark, no_pairs, node_events, nodes_events}
use Rattle.yaml_grammar.specs.Nodes.{pair, pairs_events, sequence}
use Rattle.yaml_grammar.specs.Plain.{in_brackets}
use Rattle.yaml_reading.proofs.BracketForward.{names_forward, next_ahead, part_ahead}
use Rattle.yaml_reading.proofs.Options.{either, no_some, same_some}
use Rattle.yaml_checked.proofs.StandingEvents.{StandUpTo, both, collected, placed, up_to_later}
use Rattle.yaml_checked.proofs.StandingScalars.{leaf_stands, names_stand, nothing_stands}
use Rattle.yaml_checked.proofs.TokenPlaces.{IsPlace, next_place}
use Rattle.yaml_checked.proofs.WithinText.{by_test, byte_inside, is_inside, next_within}

module _ (text : List ℕ) where
  -- the next part stands behind `,`, or it is the bracket that closes
  part_place : (close j k : ℕ) → j ≤ length text → part_after text close (next text j) ≡ Some k → IsPlace text k
  part_place close j k within h =
      let q = next text j in
      let stands : Option ℕ → Type 0 = λ o. o ≡ Some k → IsPlace text k in
      either stands (at text q == close) (Some q) (if at text q == 44 then Some (next text (suc q)) else None)
      (λ e. subst (IsPlace text) (same_some q k e) (next_place text j within))
      (by_test stands (at text q == 44) (Some (next text (suc q))) None
      (λ comma e. subst (IsPlace text) (same_some (next text (suc q)) k e)
      (next_place text (suc q) (omega (arith, is_inside text q 43 comma))))
      (λ _ e. absurd (no_some k e))) h

  -- a key and a value, before other pairs
  pub pair_before : (i j k e : ℕ) (m n : Node) (ps : Pairs) → StandUpTo text i j (node_events m ++ node_events n)
      → j ≤ k → StandUpTo text k e (pairs_events ps) → StandUpTo text i e (pairs_events (pair m n ps))
  pair_before i j k e m n ps front le back =
      subst (StandUpTo text i e) (append_assoc (node_events m) (node_events n) (pairs_events ps))
      (both text i j k e (node_events m ++ node_events n) (pairs_events ps) front le back)

  pair_alone : (i j : ℕ) (m n : Node) → StandUpTo text i j (node_events m ++ node_events n)
      → StandUpTo text i j (pairs_events (pair m n no_pairs))
  pair_alone i j m n stand =
      subst (StandUpTo text i j) (ap (λ es. node_events m ++ es) (sym (append-nil (node_events n)))) stand

  pub later : (i j : ℕ) (es : List Marked) → StandUpTo text i j es → StandUpTo text i (next text j) es
  later i j es stand = (up_to_later text i j (next text j) es (next_ahead text j) stand.0, next_within text j stand.1)

  -- up to a place behind the bracket that closes
  closing : (i e : ℕ) (es : List Marked) → e < length text → StandUpTo text i e es → StandUpTo text i (suc e) es
  closing i e es closed stand = (up_to_later text i e (suc e) es (omega arith) stand.0, omega (arith, closed))

  items_close : {d i e : ℕ} {ns : Nodes} → FlowItems text d i e ns → at text e ≡ 93
  items_close (no_flow_item o) = o
  items_close (a_flow_item n a ns) = items_close ns

  entries_close : {d i e : ℕ} {ps : Pairs} → FlowEntries text d i e ps → at text e ≡ 125
  entries_close (no_flow_entry o) = o
  entries_close (a_flow_entry n a ps) = entries_close ps

  mutual
    pub flow_events : {d i j : ℕ} {n : Node} → FlowNode text d i j n → IsPlace text i
        → StandUpTo text i j (node_events n)
    flow_events (flow_leaf {i = i} {p = p} {e = e} {names = names} {x = x} {n = n} named line leaf is) place =
        leaf_stands text true in_brackets i p e names x n place named leaf is
    flow_events (flow_collection {i = i} {p = p} {names = names} named line b) place =
        let low : i ≤ next text p = omega (arith, names_forward text true named, next_ahead text p) in
        brackets_events b low
    flow_events (flow_names {i = i} {p = p} {names = names} named some line ends) place =
        names_stand text true i p names place.within named some

    pub brackets_events : {d i k j : ℕ} {names : Names} {n : Node} → Brackets text d i names k j n → i ≤ k
        → StandUpTo text i j (node_events n)
    brackets_events (square {i = i} {k = k} {e = e} {names = names} {ns = ns} o items) low =
        let first = sequence_start names.anchor names.tag in
        let start = next text (suc k) in
        let inner = items_events items (next_place text (suc k) (omega (arith, byte_inside text k 90 o))) in
        let closed = byte_inside text e 92 (items_close items) in
        closing i e (node_events (sequence (mark text i) names ns (mark text e))) closed
        (collected text i start e first sequence_end (mark text e) (nodes_events ns) refl refl (placed text e)
        (omega (arith, low, next_ahead text (suc k))) inner (omega arith) (omega (arith, closed)))
    brackets_events (curly {i = i} {k = k} {e = e} {names = names} {ps = ps} o entries) low =
        let first = mapping_start names.anchor names.tag in
        let start = next text (suc k) in
        let inner = entries_events entries (next_place text (suc k) (omega (arith, byte_inside text k 122 o))) in
        let closed = byte_inside text e 124 (entries_close entries) in
        closing i e (node_events (mapping (mark text i) names ps (mark text e))) closed
        (collected text i start e first mapping_end (mark text e) (pairs_events ps) refl refl (placed text e)
        (omega (arith, low, next_ahead text (suc k))) inner (omega arith) (omega (arith, closed)))

    items_events : {d i e : ℕ} {ns : Nodes} → FlowItems text d i e ns → IsPlace text i
        → StandUpTo text i e (nodes_events ns)
    items_events (no_flow_item o) place = (omega arith, place.within)
    items_events (a_flow_item {i = i} {j = j} {k = k} {e = e} {n = n} {ns = ns} item a items) place =
        let front = item_events item place in
        both text i (next text j) k e (node_events n) (nodes_events ns) front (part_ahead text 93 a)
        (items_events items (part_place 93 j k (item_ends item place) a))

    -- up to the token behind it
    item_events : {d i j : ℕ} {n : Node} → FlowItem text d i j n → IsPlace text i
        → StandUpTo text i (next text j) (node_events n)
    item_events (a_single {i = i} {j = j} {n = n} node) place = later i j (node_events n) (flow_events node place)
    item_events (a_pair {i = i} {j = j} {m = m} {n = n} b p) place =
        let inner = pair_events p place in
        collected text i i j (mapping_start unnamed.anchor unnamed.tag) mapping_end (mark text (next text j))
        (pairs_events (pair m n no_pairs)) refl refl (placed text (next text j))
        (omega arith) (pair_alone i j m n inner) (next_ahead text j) (next_within text j inner.1)

    item_ends : {d i j : ℕ} {n : Node} → FlowItem text d i j n → IsPlace text i → j ≤ length text
    item_ends (a_single node) place = (flow_events node place).1
    item_ends (a_pair b p) place = (pair_events p place).1

    pair_events : {d i j : ℕ} {m n : Node} → FlowPair text d i j m n → IsPlace text i
        → StandUpTo text i j (node_events m ++ node_events n)
    pair_events (key_and_value {i = i} {k = k} {j = j} {m = m} {n = n} key c value) place =
        let colon = next text k in
        let parts = and_parts (at text colon == 58) _ c in
        let inside = is_inside text colon 57 parts.0 in
        let low : k ≤ next text (suc colon) = omega (arith, next_ahead text k, next_ahead text (suc colon)) in
        both text i k (next text (suc colon)) j (node_events m) (node_events n) (flow_events key place) low
        (value_events value (next_place text (suc colon) (omega (arith, inside))))

    value_events : {d i j : ℕ} {n : Node} → FlowValue text d i j n → IsPlace text i → StandUpTo text i j (node_events n)
    value_events (a_flow_value n) place = flow_events n place
    value_events (no_flow_value {i = i} e) place =
        (nothing_stands text (mark text i) (placed text i) place.within, place.within)

    entries_events : {d i e : ℕ} {ps : Pairs} → FlowEntries text d i e ps → IsPlace text i
        → StandUpTo text i e (pairs_events ps)
    entries_events (no_flow_entry o) place = (omega arith, place.within)
    entries_events (a_flow_entry {i = i} {j = j} {k = k} {e = e} {m = m} {n = n} {ps = ps} entry a entries) place =
        pair_before i (next text j) k e m n ps (entry_events entry place) (part_ahead text 125 a)
        (entries_events entries (part_place 125 j k (entry_ends entry place) a))

    entry_events : {d i j : ℕ} {m n : Node} → FlowEntry text d i j m n → IsPlace text i
        → StandUpTo text i (next text j) (node_events m ++ node_events n)
    entry_events (whole_entry {i = i} {j = j} {m = m} {n = n} p) place =
        later i j (node_events m ++ node_events n) (pair_events p place)
    entry_events (flow_key_alone {i = i} {j = j} {m = m} key) place =
        let front = flow_events key place in
        let colon = next text j in
        let within = next_within text j front.1 in
        both text i j colon colon (node_events m) (node_events (nothing_here text colon)) front (next_ahead text j)
        (nothing_stands text (mark text colon) (placed text colon) within, within)

    entry_ends : {d i j : ℕ} {m n : Node} → FlowEntry text d i j m n → IsPlace text i → j ≤ length text
    entry_ends (whole_entry p) place = (pair_events p place).1
    entry_ends (flow_key_alone key) place = (flow_events key place).1

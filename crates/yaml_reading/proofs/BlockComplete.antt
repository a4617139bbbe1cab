-- What stands by columns is read.
use Rattle.yaml_reading.proofs.BlockApart.{key_colon}
use Rattle.yaml_grammar.specs.Blocks.{names_key}
use Rattle.std.proofs.Common.{◌≡◌, ℕ, zero, suc, ◌+◌, ◌≤◌, ◌==◌, ◌&&◌, ◌||◌, not, Bool, true, false, List}
use Rattle.std.proofs.Common.{◌++◌, length, Some, refl, sym, ap, ◌∙◌, arith, subst, append_assoc}
use Rattle.std.proofs.Common.{append-nil}
use Rattle.std.specs.Prelude.{nat_le}
use Rattle.std.proofs.lemmas.Bool.{false≢true, and_from, and_parts, eq-eqb, eqb-true, false_from_ne_true, le-leb}
use Rattle.std.proofs.lemmas.Bool.{not-true}
use Rattle.std.proofs.lemmas.Bool.{or_from, or_left, or_parts}
use Rattle.yaml_base.specs.PlainEvent.{mapping_end, mapping_start, sequence_end, sequence_start}
use Rattle.yaml_grammar.specs.Blocks.{Behind, BlockNode, Entries, Entry, Items, Key, Room, a_block, a_collection}
use Rattle.yaml_grammar.specs.Blocks.{a_leaf}
use Rattle.yaml_grammar.specs.Blocks.{a_mapping, a_sequence, an_entry, an_item, anything, collection_key}
use Rattle.yaml_grammar.specs.Blocks.{in_a_later_line, in_its_line, in_its_own_column, in_line, is_own, is_value}
use Rattle.yaml_grammar.specs.Blocks.{key_alone, leaf_key, named_mapping, named_sequence, names_alone, no_entry}
use Rattle.yaml_grammar.specs.Blocks.{no_item, nothing, part, value, with_marks}
use Rattle.yaml_grammar.specs.Bytes.{at, column, is_gap, is_mark, is_over, parts_documents}
use Rattle.yaml_grammar.specs.Gaps.{ends_its_line, follows, is_at, is_item, is_within, next}
use Rattle.yaml_grammar.specs.Leaves.{leaf_at}
use Rattle.yaml_grammar.specs.Names.{Names, names_at, unnamed}
use Rattle.yaml_grammar.specs.Nodes.{Marked, Node, Nodes, Pairs, end_mark, mapping, mark, node_events, nodes_events}
use Rattle.yaml_grammar.specs.Nodes.{pairs_events, sequence}
use Rattle.yaml_grammar.specs.Plain.{as_key, by_columns}
use Rattle.yaml_reading.specs.BlockReader.{begins_entry, columns_at, content_at, ended_by, entries}
use Rattle.yaml_reading.specs.BlockReader.{in_room, item_behind, items, line_step, marked_step, with_block}
use Rattle.yaml_reading.specs.BlockReader.{with_line_end}
use Rattle.yaml_reading.specs.BracketReader.{brackets_at, names_step}
use Rattle.yaml_reading.specs.Readers.{and_event, and_node, and_then}
use Rattle.yaml_reading.proofs.Begins.{byte_behind, leaf_no}
use Rattle.yaml_reading.proofs.BlockApart.{Content, block_byte, content_no_dash, content_stays, dash_inside, dash_stays}
use Rattle.yaml_reading.proofs.BlockApart.{goes_on, key_no_dash, leaf_no_lines, leaf_no_open, lines_no_open}
use Rattle.yaml_reading.proofs.BlockApart.{of_collection, of_leaf, of_lines, open_some, own_names, own_no_within}
use Rattle.yaml_reading.proofs.BlockForward.{behind_forward, entry_forward}
use Rattle.yaml_reading.proofs.BlockSteps.{behind_is, behind_within, column_is, columns_entries, columns_items}
use Rattle.yaml_reading.proofs.BlockSteps.{content_is}
use Rattle.yaml_reading.proofs.BlockSteps.{entries_within, entry_is, entry_within, items_within, key_within, node_here}
use Rattle.yaml_reading.proofs.BlockSteps.{node_later, node_within}
use Rattle.yaml_reading.proofs.BracketComplete.{bracket_opens, brackets_of}
use Rattle.yaml_reading.proofs.BracketSteps.{between}
use Rattle.yaml_reading.proofs.KeyReading.{begins_key, begins_marked, key_of, leaf_is, no_entry_by}

both : {b : Bool} → b ≡ true → b ≡ false → ⊥
both t f = false≢true (sym f ∙ t)

module _ (text : List ℕ) where
  -- what is no collection by columns
  content_of : {d least i q j : ℕ} {names : Names} {n : Node} → Content text d least i names q j n → (m : ℕ) → d ≤ m
      → (es : List Marked) → content_at text (brackets_at text m) least es i names q ≡ Some (and_node es n, j)
  content_of {d} {least} {i} {q} {j} {names} (of_leaf {e = e} {x = x} {n = n} leaf is line) m le es =
      content_is text (brackets_at text m) least es i names q false false
      (leaf_no_open text (by_columns least) q (x, e) leaf) (leaf_no_lines text (by_columns least) q (x, e) leaf)
      ∙ ap (with_line_end text) (leaf_is text es i names (leaf_at text (by_columns least) q) x e n leaf is)
      ∙ ap (line_step text (and_node es n) e) line
  content_of {d} {least} {i} {q} {j} {names} (of_lines {e = e} {said = said} block) m le es =
      let byte = block_byte text least q (e, said) block in
      content_is text (brackets_at text m) least es i names q false true (lines_no_open text (at text q) byte) byte
      ∙ ap (with_block text es i names q) block
  content_of {d} {least} {i} {q} {j} {names} (of_collection {e = e} {n = n} b line) m le es =
      content_is text (brackets_at text m) least es i names q true _ (bracket_opens text b) refl
      ∙ ap (with_line_end text) (brackets_of text b m le es)
      ∙ ap (line_step text (and_node es n) e) line

  no_dash : {d least i q j : ℕ} {names : Names} {n : Node} → Content text d least i names q j n
      → is_mark text 45 q ≡ false
  no_dash {q = q} c = false_from_ne_true (is_mark text 45 q) (content_no_dash text 45 refl c)

  -- the dash stands in its own place
  no_dash_before : {d least i p j : ℕ} {names : Names} {n : Node} → names_at text false i ≡ Some (names, p)
      → Content text d least i names (next text p) j n → is_mark text 45 i ≡ false
  no_dash_before {d} {least} {i} {p} h c =
      false_from_ne_true (is_mark text 45 i)
      (λ dash. let own = own_names text false (dash_stays text 45 i refl dash) h in
      content_no_dash text 45 refl c (subst (λ q. is_mark text 45 q ≡ true) (sym own.next_place) dash))

  content_node : {d least i p j : ℕ} {names : Names} {n : Node} (room : Room) → names_at text false i ≡ Some (names, p)
      → follows text least p ≡ true → Content text d least i names (next text p) j n → (m : ℕ) → d ≤ m
      → (es : List Marked) → node_within text m least room es i ≡ Some (and_node es n, j)
  content_node {d} {least} {i} {p} {j} {names} {n} room h goes c m le es = by_line (ends_its_line text p) refl goes
    where
      by_line : (x : Bool) → ends_its_line text p ≡ x → (not x || is_within text least (next text p)) ≡ true
          → node_within text m least room es i ≡ Some (and_node es n, j)
      by_line false line goes =
          node_here text (columns_at text m) (brackets_at text m) least room es i names p false false h line
          (no_dash_before h c) (no_entry_by text i p m h refl c)
          ∙ content_of c m le es
      by_line true line goes =
          let q = next text p in
          let s = content_stays text c in
          node_later text (columns_at text m) (brackets_at text m) least room es i names p true false true false h line
          (or_left (is_within text least q) (is_own text room least q) goes) (no_dash c) goes
          (no_entry_by text q q m (s.names false) s.here c)
          ∙ content_of c m le es

  -- where an entry begins
  record Begun (m i : ℕ) : Type 0 where
    names : Names
    p : ℕ
    found : names_at text false i ≡ Some (names, p)
    line : ends_its_line text p ≡ false
    dash : is_mark text 45 i ≡ false
    entry : begins_entry text (brackets_at text m) i ≡ true

  key_begun : {d i k : ℕ} {y : Node} (m : ℕ) → d ≤ m → is_over text i ≡ false → Key text d i k y → Begun m i
  key_begun {d} {i} m le inside (leaf_key {p = p} {e = e} {names = names} {x = x} h line leaf is ends) = record {
    names = names;
    p = p;
    found = h;
    line = goes_on text p line (leaf_no text as_key (next text p) 0 (x, e) leaf refl);
    dash = false_from_ne_true (is_mark text 45 i) (key_no_dash text {d = d} 45 refl (leaf_key h line leaf is ends));
    entry = begins_key text inside (leaf_key h line leaf is ends) m le;
  }
  key_begun {d} {i} m le inside (collection_key {p = p} {names = names} h line b ends) = record {
    names = names;
    p = p;
    found = h;
    line = goes_on text p line (open_some text (at text (next text p)) (bracket_opens text b));
    dash = false_from_ne_true (is_mark text 45 i) (key_no_dash text {d = d} 45 refl (collection_key h line b ends));
    entry = begins_key text inside (collection_key h line b ends) m le;
  }
  key_begun {d} {i} m le inside (names_key {p = p} {names = names} h some line ends) = record {
    names = names;
    p = p;
    found = h;
    line = goes_on text p line (dash_inside text 58 (next text p) refl (key_colon text i p ends));
    dash = false_from_ne_true (is_mark text 45 i) (key_no_dash text {d = d} 45 refl (names_key h some line ends));
    entry = begins_key text inside (names_key {d = d} h some line ends) m le;
  }

  not_both_marks : (i : ℕ) → is_mark text 63 i ≡ true → is_mark text 45 i ≡ false
  not_both_marks i h =
      let byte = eqb-true (at text i) 63 (and_parts (at text i == 63) _ h).0 in
      ap (λ c. c == 45 && is_gap (at text (i + 1))) byte

  mark_begun : (m i : ℕ) → is_over text i ≡ false → is_mark text 63 i ≡ true → Begun m i
  mark_begun m i inside mark =
      let s = dash_stays text 63 i refl mark in
      record {
        names = unnamed;
        p = i;
        found = s.names false;
        line = goes_on text i s.in_line (λ e. dash_inside text 63 i refl mark (ap (at text) (sym s.here) ∙ e));
        dash = not_both_marks i mark;
        entry = begins_marked text i m inside mark;
      }

  entry_begun : {d c i j : ℕ} {y n : Node} (m : ℕ) → d ≤ m → is_over text i ≡ false → Entry text d c i j y n → Begun m i
  entry_begun m le inside (in_line key v) = key_begun m le inside key
  entry_begun {d} {c} {i} m le inside (with_marks mark key colon v) = mark_begun m i inside mark
  entry_begun {d} {c} {i} m le inside (key_alone mark key colon) = mark_begun m i inside mark

  entries_begun : {d i j : ℕ} {ps : Pairs} (m : ℕ) → d ≤ m → is_over text i ≡ false
      → Entries text d (column text i) i j ps → Begun m i
  entries_begun {d} {i} m le inside (no_entry here out) =
      absurd (both (and_from (not (is_over text i)) _ (ap not inside) (eq-eqb (column text i) (column text i) refl))
      here)
  entries_begun m le inside (an_entry here entry ps) = entry_begun m le inside entry

  within_inside : (least i : ℕ) → is_within text least i ≡ true → is_over text i ≡ false
  within_inside least i h = not-true (is_over text i) (and_parts (not (is_over text i)) _ h).0

  -- turns that are left
  item_inside : (c i : ℕ) → is_item text c i ≡ true → length text ≤ 0 + i → ⊥
  item_inside c i h le =
      dash_inside text 45 i refl (and_parts (is_mark text 45 i) _ h).0 (byte_behind text i (omega (arith, le)))

  entry_inside : (c i : ℕ) → is_at text c i ≡ true → length text ≤ 0 + i → ⊥
  entry_inside c i h le =
      let inside = not-true (is_over text i) (and_parts (not (is_over text i)) _ h).0 in
      both (le-leb (length text) i (omega (arith, le)))
      (or_parts (nat_le (length text) i) (parts_documents text i) inside).0

  key_no_mark : {d i k : ℕ} {y : Node} → Key text d i k y → is_mark text 63 i ≡ false
  key_no_mark {d} {i} key = false_from_ne_true (is_mark text 63 i) (key_no_dash text 63 refl key)

  -- the parts of a collection are read within so many nestings and more
  abbrev ItemsRead : (d c i j : ℕ) → Nodes → Type 0
  ItemsRead d c i j ns =
      (m : ℕ) → d ≤ m → (es : List Marked) (t : ℕ) → length text ≤ t + i
      → items_within text m c t es i ≡ Some (es ++ nodes_events ns, j)

  abbrev EntriesRead : (d c i j : ℕ) → Pairs → Type 0
  EntriesRead d c i j ps =
      (m : ℕ) → d ≤ m → (es : List Marked) (t : ℕ) → length text ≤ t + i
      → entries_within text m c t es i ≡ Some (es ++ pairs_events ps, j)

  sequence_of : (d c i j : ℕ) (ns : Nodes) → ItemsRead d c i j ns → (m : ℕ) → suc d ≤ m → (names : Names) (start : ℕ)
      (es : List Marked) → columns_at text m items names start c es i
      ≡ Some (and_node es (sequence (mark text start) names ns (end_mark text c j)), j)
  sequence_of d c i j ns read zero le names start es = absurd (omega (arith, le))
  sequence_of d c i j ns read (suc m) le names start es =
      let begin : Marked = (sequence_start names.anchor names.tag, mark text start) in
      columns_items text m names start c es i
      ∙ ap (ended_by text sequence_end c) (read m (omega (arith, le)) (and_event es begin) (length text) (omega arith))
      ∙ ap (λ l. Some (l, j)) (between es (nodes_events ns) begin (sequence_end, end_mark text c j))

  mapping_of : (d c i j : ℕ) (ps : Pairs) → EntriesRead d c i j ps → (m : ℕ) → suc d ≤ m → (names : Names) (start : ℕ)
      (es : List Marked) → columns_at text m entries names start c es i
      ≡ Some (and_node es (mapping (mark text start) names ps (end_mark text c j)), j)
  mapping_of d c i j ps read zero le names start es = absurd (omega (arith, le))
  mapping_of d c i j ps read (suc m) le names start es =
      let begin : Marked = (mapping_start names.anchor names.tag, mark text start) in
      columns_entries text m names start c es i
      ∙ ap (ended_by text mapping_end c) (read m (omega (arith, le)) (and_event es begin) (length text) (omega arith))
      ∙ ap (λ l. Some (l, j)) (between es (pairs_events ps) begin (mapping_end, end_mark text c j))

  mutual
    pub node_of : {d least i j : ℕ} {room : Room} {n : Node} → BlockNode text d least room i j n → (m : ℕ) → d ≤ m
        → (es : List Marked) → node_within text m least room es i ≡ Some (and_node es n, j)
    node_of (a_leaf {room = room} h goes leaf is line) m le es = content_node room h goes (of_leaf leaf is line) m le es
    node_of (a_block {room = room} h goes block) m le es = content_node room h goes (of_lines block) m le es
    node_of (a_collection {room = room} h goes b line) m le es = content_node room h goes (of_collection b line) m le es
    node_of (a_sequence {d = d} {least = least} {i = i} {j = j} {room = room} {ns = ns} takes dash x) m le es =
        let s = dash_stays text 45 i refl dash in
        node_here text (columns_at text m) (brackets_at text m) least room es i unnamed i true _ (s.names false)
        (goes_on text i s.in_line (λ e. dash_inside text 45 i refl dash (ap (at text) (sym s.here) ∙ e))) dash refl
        ∙ ap (λ b. in_room b (columns_at text m items unnamed i (column text i) es i)) takes
        ∙ sequence_of d (column text i) i j ns (items_of x) m le unnamed i es
    node_of (a_mapping {d = d} {least = least} {i = i} {j = j} {room = room} {ps = ps} takes inside x) m le es =
        let b = entries_begun m (omega (arith, le)) inside x in
        node_here text (columns_at text m) (brackets_at text m) least room es i b.names b.p false true b.found b.line
        b.dash
        b.entry
        ∙ ap (λ b. in_room b (columns_at text m entries unnamed i (column text i) es i)) takes
        ∙ mapping_of d (column text i) i j ps (entries_of x) m le unnamed i es
    node_of (named_sequence {d = d} {least = least} {i = i} {p = p} {j = j} {room = room} {names = names} {ns = ns} h
        line goes dash x) m le es =
        node_later text (columns_at text m) (brackets_at text m) least room es i names p true true _ _ h line goes
        dash refl
        refl
        ∙ sequence_of d (column text (next text p)) (next text p) j ns (items_of x) m le names i es
    node_of (named_mapping {d = d} {least = least} {i = i} {p = p} {j = j} {room = room} {names = names} {ps = ps} h
        line inner x) m le es =
        let q = next text p in
        let b = entries_begun m (omega (arith, le)) (within_inside least q inner) x in
        node_later text (columns_at text m) (brackets_at text m) least room es i names p true false true true h line
        (or_left (is_within text least q) (is_own text room least q) inner) b.dash inner b.entry
        ∙ mapping_of d (column text q) q j ps (entries_of x) m le names i es
    node_of (names_alone {least = least} {i = i} {p = p} {room = room} {names = names} h some line out other) m le es =
        node_later text (columns_at text m) (brackets_at text m) least room es i names p false _ _ _ h line
        (or_from (is_within text least (next text p)) (is_own text room least (next text p)) out other) refl refl refl
        ∙ ap (λ b. and_then (names_step text es i p names b) (λ ks k. Some (ks, next text k))) some

    behind_of : {d c i j : ℕ} {room : Room} {n : Node} → Behind text d c room i j n → (m : ℕ) → d ≤ m
        → (es : List Marked) → behind_within text m c room es i ≡ Some (and_node es n, j)
    behind_of (in_its_line {c = c} {i = i} {room = room} line n) m le es =
        behind_is text (columns_at text m) (brackets_at text m) c room es i false _ _ line refl refl ∙ node_of n m le es
    behind_of (in_a_later_line {c = c} {i = i} {room = room} line inner n) m le es =
        behind_is text (columns_at text m) (brackets_at text m) c room es i true true _ line inner refl
        ∙ node_of n m le es
    behind_of (in_its_own_column {d = d} {c = c} {i = i} {j = j} {room = room} {ns = ns} line own x) m le es =
        behind_is text (columns_at text m) (brackets_at text m) c room es i true false true line
        (own_no_within text room c (next text i) own) own
        ∙ sequence_of d c (next text i) j ns (items_of x) m le unnamed (next text i) es
    behind_of (nothing {c = c} {i = i} {room = room} line out other) m le es =
        behind_is text (columns_at text m) (brackets_at text m) c room es i true false false line out other

    items_of : {d c i j : ℕ} {ns : Nodes} → Items text d c i j ns → (m : ℕ) → d ≤ m → (es : List Marked) (t : ℕ)
        → length text ≤ t + i → items_within text m c t es i ≡ Some (es ++ nodes_events ns, j)
    items_of (no_item {c = c} {i = i} item out) m le es t on =
        column_is text (is_item text c) (item_behind (behind_within text m c anything)) c t es i false false item out
        ∙ ap (λ l. Some (l, i)) (sym (append-nil es))
    items_of (an_item {c = c} {i = i} item n ns) m le es zero on = absurd (item_inside c i item on)
    items_of (an_item {c = c} {i = i} {k = k} {j = j} {n = n} {ns = ns} item x rest) m le es (suc t) on =
        column_is text (is_item text c) (item_behind (behind_within text m c anything)) c (suc t) es i true _ item refl
        ∙ ap (λ r. and_then r (items_within text m c t)) (behind_of x m le es)
        ∙ items_of rest m le (and_node es n) t (omega (arith, on, behind_forward text x))
        ∙ ap (λ l. Some (l, j)) (append_assoc es (node_events n) (nodes_events ns))

    entries_of : {d c i j : ℕ} {ps : Pairs} → Entries text d c i j ps → (m : ℕ) → d ≤ m → (es : List Marked) (t : ℕ)
        → length text ≤ t + i → entries_within text m c t es i ≡ Some (es ++ pairs_events ps, j)
    entries_of (no_entry {c = c} {i = i} here out) m le es t on =
        column_is text (is_at text c) (entry_within text m c) c t es i false false here out
        ∙ ap (λ l. Some (l, i)) (sym (append-nil es))
    entries_of (an_entry {c = c} {i = i} here n ps) m le es zero on = absurd (entry_inside c i here on)
    entries_of (an_entry {c = c} {i = i} {k = k} {j = j} {m = y} {n = n} {ps = ps} here x rest) m le es (suc t) on =
        column_is text (is_at text c) (entry_within text m c) c (suc t) es i true _ here refl
        ∙ ap (λ r. and_then r (entries_within text m c t)) (entry_of x m le es)
        ∙ entries_of rest m le (and_node (and_node es y) n) t (omega (arith, on, entry_forward text x))
        ∙ ap (λ l. Some (l, j))
        (append_assoc (and_node es y) (node_events n) (pairs_events ps)
        ∙ append_assoc es (node_events y) (node_events n ++ pairs_events ps))

    entry_of : {d c i j : ℕ} {y n : Node} → Entry text d c i j y n → (m : ℕ) → d ≤ m → (es : List Marked)
        → entry_within text m c es i ≡ Some (and_node (and_node es y) n, j)
    entry_of (in_line {c = c} {i = i} {k = k} {m = y} key v) m le es =
        entry_is text (key_within text m) (behind_within text m c) c es i false (key_no_mark key)
        ∙ ap (λ r. and_then r (λ ks k. behind_within text m c value ks (suc k))) (key_of text key m le es)
        ∙ behind_of v m le (and_node es y)
    entry_of (with_marks {c = c} {i = i} {k = k} {m = y} mark key colon v) m le es =
        entry_is text (key_within text m) (behind_within text m c) c es i true mark
        ∙ ap (λ r. and_then r (λ ks k. marked_step text (behind_within text m c part) c ks k (is_value text c k)))
        (behind_of key m le es)
        ∙ ap (marked_step text (behind_within text m c part) c (and_node es y) k) colon
        ∙ behind_of v m le (and_node es y)
    entry_of (key_alone {c = c} {i = i} {k = k} {m = y} mark key colon) m le es =
        entry_is text (key_within text m) (behind_within text m c) c es i true mark
        ∙ ap (λ r. and_then r (λ ks k. marked_step text (behind_within text m c part) c ks k (is_value text c k)))
        (behind_of key m le es)
        ∙ ap (marked_step text (behind_within text m c part) c (and_node es y) k) colon

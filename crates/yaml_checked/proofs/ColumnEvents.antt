-- The events of what stands by columns.
use Rattle.std.proofs.Common.{◌≡◌, ℕ, suc, ◌<◌, ◌≤◌, ◌==◌, List, [], ◌∷◌, ◌++◌, arith, None, length, refl, subst}
use Rattle.std.proofs.Common.{true, false}
use Rattle.std.specs.Prelude.{slice_range}
use Rattle.std.proofs.lemmas.Bool.{and_parts}
use Rattle.yaml_base.specs.PlainEvent.{PlainEvent, mapping_end, mapping_start, sequence_end, sequence_start}
use Rattle.yaml_base.specs.declared.event.ScalarStyle.TheVariants as style
use Rattle.yaml_grammar.specs.Blocks.{Behind, BlockNode, Entries, Entry, Items, Key, Room, a_block, a_collection}
use Rattle.yaml_grammar.specs.Blocks.{a_leaf, a_mapping, a_sequence, an_entry, an_item, block_style, collection_key}
use Rattle.yaml_grammar.specs.Blocks.{ends_key, in_a_later_line, in_its_line, in_its_own_column, in_line, key_alone}
use Rattle.yaml_grammar.specs.Blocks.{leaf_key, named_mapping, named_sequence, names_alone, names_key, no_entry}
use Rattle.yaml_grammar.specs.Blocks.{no_item, nothing, with_marks}
use Rattle.yaml_grammar.specs.Brackets.{has_colon, nothing_here}
use Rattle.yaml_grammar.specs.Bytes.{at, column, is_mark}
use Rattle.yaml_grammar.specs.Gaps.{next}
use Rattle.yaml_grammar.specs.Names.{unnamed}
use Rattle.yaml_grammar.specs.Nodes.{Marked, Node, Nodes, Pairs, end_mark, mark, no_content, node_events}
use Rattle.yaml_grammar.specs.Nodes.{nodes_events, pairs_events, scalar_at, sequence}
use Rattle.yaml_grammar.specs.Plain.{as_key, by_columns}
use Rattle.yaml_reading.proofs.BracketForward.{names_forward, next_ahead}
use Rattle.yaml_reading.proofs.Forward.{block_ahead}
use Rattle.yaml_reading.proofs.Options.{either}
use Rattle.yaml_parse.specs.PlainText.{scalar_in}
use Rattle.yaml_checked.proofs.BracketEvents.{brackets_events, later, pair_before}
use Rattle.yaml_checked.proofs.BlocksWithin.{block_within}
use Rattle.yaml_checked.proofs.StandingEvents.{StandUpTo, both, collected, end_placed, from_earlier, placed}
use Rattle.yaml_checked.proofs.StandingScalars.{end_index, leaf_stands, names_stand, nothing_stands, other_stands}
use Rattle.yaml_checked.proofs.TokenPlaces.{IsPlace, next_place}
use Rattle.yaml_checked.proofs.WithinText.{is_inside, names_within}

block_not_plain : (c : ℕ) → block_style c ≡ style.Plain → ⊥
block_not_plain c =
    either (λ how. how ≡ style.Plain → ⊥) (c == 62) style.Folded style.Literal (λ e. absurd cc) (λ e. absurd cc)

module _ (text : List ℕ) where
  -- what stands up to a token
  abbrev pub UpToToken : (i j : ℕ) → List Marked → Type 0
  UpToToken i j es = StandUpTo text i j es × IsPlace text j

  token_behind : (i j : ℕ) (es : List Marked) → StandUpTo text i j es → UpToToken i (next text j) es
  token_behind i j es stand = (later text i j es stand, next_place text j stand.1)

  pub earlier : (i k j : ℕ) (es : List Marked) → i ≤ k → UpToToken k j es → UpToToken i j es
  earlier i k j es low stand = ((from_earlier text k i j es low stand.0.0, stand.0.1), stand.1)

  -- a collection in a column
  column_collected : (c i k j : ℕ) (first last : PlainEvent) (es : List Marked)
      → scalar_in first ≡ None → scalar_in last ≡ None → i ≤ k → UpToToken k j es
      → UpToToken i j ((first, mark text i) ∷ (es ++ (last, end_mark text c j) ∷ []))
  column_collected c i k j first last es opening closing low stand =
      let same = end_index text c j in
      let events : List Marked = (first, mark text i) ∷ (es ++ (last, end_mark text c j) ∷ []) in
      let all = collected text i k j first last (end_mark text c j) es opening closing
      (end_placed text c j) low stand.0 (omega (arith, same))
      (omega (arith, same, stand.0.1)) in
      (subst (λ h. StandUpTo text i h events) same all, stand.1)

  -- no content where what stands in a column ends
  pub nothing_at_end : (c j : ℕ) → IsPlace text j
      → UpToToken j j (node_events (no_content (end_mark text c j) unnamed []))
  nothing_at_end c j place =
      let end = end_mark text c j in
      let same = end_index text c j in
      let within : end.index ≤ length text = omega (arith, same, place.within) in
      let all : StandUpTo text end.index end.index (node_events (no_content end unnamed [])) =
      (nothing_stands text end (end_placed text c j) within, within) in
      (subst (λ h. StandUpTo text h h (node_events (no_content end unnamed []))) same all, place)

  pub key_events : {d i k : ℕ} {n : Node} → Key text d i k n → IsPlace text i → StandUpTo text i k (node_events n)
  key_events (leaf_key {i = i} {p = p} {e = e} {names = names} {x = x} {n = n} named line leaf is ends) place =
      later text i e (node_events n) (leaf_stands text false as_key i p e names x n place named leaf is)
  key_events (collection_key {i = i} {p = p} {e = e} {n = n} named line b ends) place =
      later text i e (node_events n)
      (brackets_events text b (omega (arith, names_forward text false named, next_ahead text p)))
  key_events (names_key {i = i} {p = p} {names = names} named some line ends) place =
      later text i p (node_events (no_content (mark text i) names (slice_range text i p)))
      (names_stand text false i p names place.within named some)

  colon_inside : (i e : ℕ) → ends_key text i e ≡ true → next text e < length text
  colon_inside i e ends =
      is_inside text (next text e) 57
      (and_parts (at text (next text e) == 58) _ (and_parts (has_colon text i e) _ ends).0).0

  key_colon : {d i k : ℕ} {n : Node} → Key text d i k n → k < length text
  key_colon (leaf_key {i = i} {e = e} named line leaf is ends) = colon_inside i e ends
  key_colon (collection_key {i = i} {e = e} named line b ends) = colon_inside i e ends
  key_colon (names_key {i = i} {p = p} named some line ends) = colon_inside i p ends

  mark_inside : (c i : ℕ) → is_mark text (suc c) i ≡ true → i < length text
  mark_inside c i h = is_inside text i c (and_parts (at text i == suc c) _ h).0

  mutual
    pub block_events : {d least i j : ℕ} {room : Room} {n : Node} → BlockNode text d least room i j n → IsPlace text i
        → UpToToken i j (node_events n)
    block_events (a_leaf {least = c} {i = i} {p = p} {e = e} {names = names} {x = x} {n = n} named goes leaf is ends)
        place =
        token_behind i e (node_events n) (leaf_stands text false (by_columns c) i p e names x n place named leaf is)
    block_events (a_block {least = c} {i = i} {p = p} {e = e} {names = names} {said = said} named goes block) place =
        let q = next text p in
        let within = block_within text c q (e, said) block in
        let low : i ≤ e =
        omega (arith, names_forward text false named, next_ahead text p, block_ahead text c q (e, said) block) in
        let how = block_style (at text q) in
        token_behind i e (node_events (scalar_at text i names how said e))
        (other_stands text i e names how said low within (block_not_plain (at text q)), within)
    block_events (a_collection {i = i} {p = p} {e = e} {n = n} named goes b ends) place =
        token_behind i e (node_events n)
        (brackets_events text b (omega (arith, names_forward text false named, next_ahead text p)))
    block_events (a_sequence {i = i} {j = j} {ns = ns} takes mark items) place =
        let first = sequence_start unnamed.anchor unnamed.tag in
        column_collected (column text i) i i j first sequence_end (nodes_events ns) refl refl (omega arith)
        (items_events items place)
    block_events (a_mapping {i = i} {j = j} {ps = ps} takes inside entries) place =
        column_collected (column text i) i i j (mapping_start unnamed.anchor unnamed.tag) mapping_end (pairs_events ps)
        refl refl (omega arith)
        (entries_events entries place)
    block_events (named_sequence {i = i} {p = p} {j = j} {names = names} {ns = ns} named ends inner mark items) place =
        let q = next text p in
        let token = next_place text p (names_within text false i place.within (names, p) named) in
        column_collected (column text q) i q j (sequence_start names.anchor names.tag) sequence_end (nodes_events ns)
        refl refl
        (omega (arith, names_forward text false named, next_ahead text p)) (items_events items token)
    block_events (named_mapping {i = i} {p = p} {j = j} {names = names} {ps = ps} named ends inner entries) place =
        let q = next text p in
        let token = next_place text p (names_within text false i place.within (names, p) named) in
        column_collected (column text q) i q j (mapping_start names.anchor names.tag) mapping_end (pairs_events ps)
        refl refl
        (omega (arith, names_forward text false named, next_ahead text p)) (entries_events entries token)
    block_events (names_alone {i = i} {p = p} {names = names} named some ends out other) place =
        token_behind i p (node_events (no_content (mark text i) names (slice_range text i p)))
        (names_stand text false i p names place.within named some)

    pub behind_events : {d c i j : ℕ} {room : Room} {n : Node} → Behind text d c room i j n → i ≤ length text
        → UpToToken i j (node_events n)
    behind_events (in_its_line {i = i} {j = j} {n = n} ends node) within =
        earlier i (next text i) j (node_events n) (next_ahead text i) (block_events node (next_place text i within))
    behind_events (in_a_later_line {i = i} {j = j} {n = n} ends inner node) within =
        earlier i (next text i) j (node_events n) (next_ahead text i) (block_events node (next_place text i within))
    behind_events (in_its_own_column {c = c} {i = i} {j = j} {ns = ns} ends own items) within =
        let q = next text i in
        earlier i q j (node_events (sequence (mark text q) unnamed ns (end_mark text c j))) (next_ahead text i)
        (column_collected c q q j (sequence_start unnamed.anchor unnamed.tag) sequence_end (nodes_events ns)
        refl refl (omega arith)
        (items_events items (next_place text i within)))
    behind_events (nothing {i = i} ends out other) within =
        token_behind i i (node_events (nothing_here text i))
        (nothing_stands text (mark text i) (placed text i) within, within)

    items_events : {d c i j : ℕ} {ns : Nodes} → Items text d c i j ns → IsPlace text i → UpToToken i j (nodes_events ns)
    items_events (no_item item out) place = ((omega arith, place.within), place)
    items_events (an_item {i = i} {k = k} {j = j} {n = n} {ns = ns} item node items) place =
        let inside = mark_inside 44 i (and_parts (is_mark text 45 i) _ item).0 in
        let front = earlier i (suc i) k (node_events n) (omega arith) (behind_events node (omega (arith, inside))) in
        let back = items_events items front.1 in
        (both text i k k j (node_events n) (nodes_events ns) front.0 (omega arith) back.0, back.1)

    entries_events : {d c i j : ℕ} {ps : Pairs} → Entries text d c i j ps → IsPlace text i
        → UpToToken i j (pairs_events ps)
    entries_events (no_entry here out) place = ((omega arith, place.within), place)
    entries_events (an_entry {i = i} {k = k} {j = j} {m = m} {n = n} {ps = ps} here entry entries) place =
        let front = entry_events entry place in
        let back = entries_events entries front.1 in
        (pair_before text i k k j m n ps front.0 (omega arith) back.0, back.1)

    pub entry_events : {d c i j : ℕ} {m n : Node} → Entry text d c i j m n → IsPlace text i
        → UpToToken i j (node_events m ++ node_events n)
    entry_events (in_line {i = i} {k = k} {j = j} {m = m} {n = n} key value) place =
        let inside = key_colon key in
        let back = behind_events value (omega (arith, inside)) in
        (both text i k (suc k) j (node_events m) (node_events n) (key_events key place) (omega arith) back.0, back.1)
    entry_events (with_marks {i = i} {k = k} {j = j} {m = m} {n = n} mark key colon value) place =
        let inside = mark_inside 62 i mark in
        let front = earlier i (suc i) k (node_events m) (omega arith) (behind_events key (omega (arith, inside))) in
        let amid = mark_inside 57 k (and_parts (is_mark text 58 k) _ colon).0 in
        let back = behind_events value (omega (arith, amid)) in
        (both text i k (suc k) j (node_events m) (node_events n) front.0 (omega arith) back.0, back.1)
    entry_events (key_alone {c = c} {i = i} {k = k} {m = m} mark key colon) place =
        let inside = mark_inside 62 i mark in
        let front = earlier i (suc i) k (node_events m) (omega arith) (behind_events key (omega (arith, inside))) in
        let back = nothing_at_end c k front.1 in (
          both text i k k k (node_events m) (node_events (no_content (end_mark text c k) unnamed [])) front.0
              (omega arith) back.0,
          back.1,
        )

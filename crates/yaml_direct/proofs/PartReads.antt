-- What stands behind an indicator is read, and so is an entry.
use Rattle.std.proofs.Common.{ℕ, suc, ◌≡◌, ◌≤◌, true, false, List, Some, refl, sym, subst, ap, ◌∙◌}
use Rattle.std.proofs.lemmas.Bool.{false_from_ne_true}
use Rattle.yaml_direct.proofs.ColumnSteps.{own_is}
use Rattle.yaml_grammar.specs.Blocks.{Behind, Entry, Key, Room, a_sequence, anything, in_a_later_line, in_its_line}
use Rattle.yaml_grammar.specs.Blocks.{in_its_own_column, in_line, is_own, is_value, key_alone, nothing, part, value}
use Rattle.yaml_grammar.specs.Blocks.{Items, with_marks}
use Rattle.yaml_grammar.specs.Bytes.{is_mark}
use Rattle.yaml_grammar.specs.Gaps.{next}
use Rattle.yaml_grammar.specs.Names.{unnamed}
use Rattle.yaml_grammar.specs.Nodes.{Marked, Node, Nodes, end_mark, mark, sequence}
use Rattle.yaml_reading.specs.BlockReader.{columns_at, items, marked_step}
use Rattle.yaml_reading.specs.BracketReader.{brackets_at}
use Rattle.yaml_reading.specs.Readers.{Read, and_node, and_then}
use Rattle.yaml_reading.proofs.BlockApart.{key_no_dash, own_no_within}
use Rattle.yaml_reading.proofs.BlockComplete.{node_of}
use Rattle.yaml_reading.proofs.BlockSteps.{behind_is, behind_within, entry_is, entry_within, key_within}
use Rattle.yaml_reading.proofs.KeyReading.{key_of}
use Rattle.yaml_reading.proofs.NodeAnswers.{sequence_read}

module _ (text : List ℕ) where
  own_of : {d c q j : ℕ} (room : Room) {ns : Nodes} → is_own text room (suc c) q ≡ true → Items text d c q j ns
      → (m : ℕ) → suc d ≤ m → (es : List Marked) → columns_at text m items unnamed q c es q
      ≡ Some (and_node es (sequence (mark text q) unnamed ns (end_mark text c j)), j)
  own_of {d} {c} {q} {j} room {ns} own x m le es =
      let item = own_is text room c q own in
      let stands = a_sequence {least = 0} {room = anything} refl item.0
      (subst (λ k. Items text d k q j ns) (sym item.1) x) in
      subst (λ k. ◌≡◌ {A = Read} (columns_at text m items unnamed q k es q)
      (Some (and_node es (sequence (mark text q) unnamed ns (end_mark text k j)), j))) item.1
      (sym (sequence_read text m 0 anything es q item.0) ∙ node_of text stands m le es)

  pub behind_of : {d c i j : ℕ} {room : Room} {n : Node} → Behind text d c room i j n → (m : ℕ) → d ≤ m
      → (es : List Marked) → behind_within text m c room es i ≡ Some (and_node es n, j)
  behind_of (in_its_line {c = c} {i = i} {room = room} line n) m le es =
      behind_is text (columns_at text m) (brackets_at text m) c room es i false _ _ line refl refl
      ∙ node_of text n m le es
  behind_of (in_a_later_line {c = c} {i = i} {room = room} line inner n) m le es =
      behind_is text (columns_at text m) (brackets_at text m) c room es i true true _ line inner refl
      ∙ node_of text n m le es
  behind_of (in_its_own_column {c = c} {i = i} {room = room} line own x) m le es =
      behind_is text (columns_at text m) (brackets_at text m) c room es i true false true line
      (own_no_within text room c (next text i) own) own
      ∙ own_of room own x m le es
  behind_of (nothing {c = c} {i = i} {room = room} line out other) m le es =
      behind_is text (columns_at text m) (brackets_at text m) c room es i true false false line out other

  key_no_mark : {d i k : ℕ} {y : Node} → Key text d i k y → is_mark text 63 i ≡ false
  key_no_mark {d} {i} key = false_from_ne_true (is_mark text 63 i) (key_no_dash text 63 refl key)

  pub entry_of : {d c i j : ℕ} {y n : Node} → Entry text d c i j y n → (m : ℕ) → d ≤ m → (es : List Marked)
      → entry_within text m c es i ≡ Some (and_node (and_node es y) n, j)
  entry_of (in_line {c = c} {i = i} {k = k} {m = y} key v) m le es =
      entry_is text (key_within text m) (behind_within text m c) c es i false (key_no_mark key)
      ∙ ap (λ r. and_then r (λ ks k. behind_within text m c value ks (suc k))) (key_of text key m le es)
      ∙ behind_of v m le (and_node es y)
  entry_of (with_marks {c = c} {i = i} {k = k} {m = y} mark key colon v) m le es =
      entry_is text (key_within text m) (behind_within text m c) c es i true mark
      ∙ ap (λ r. and_then r (λ ks k. marked_step text (behind_within text m c part) c ks k (is_value text c k)))
      (behind_of key m le es)
      ∙ ap (marked_step text (behind_within text m c part) c (and_node es y) k) colon
      ∙ behind_of v m le (and_node es y)
  entry_of (key_alone {c = c} {i = i} {k = k} {m = y} mark key colon) m le es =
      entry_is text (key_within text m) (behind_within text m c) c es i true mark
      ∙ ap (λ r. and_then r (λ ks k. marked_step text (behind_within text m c part) c ks k (is_value text c k)))
      (behind_of key m le es)
      ∙ ap (marked_step text (behind_within text m c part) c (and_node es y) k) colon

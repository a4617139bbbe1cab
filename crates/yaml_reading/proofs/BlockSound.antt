-- What is read by columns stands.
use Rattle.std.proofs.Common.{◌≡◌, ℕ, zero, suc, ◌||◌, not, Bool, true, false, List, [], ◌++◌, length}
use Rattle.std.proofs.Common.{Some, None, refl, sym, ap, ap₂, ◌∙◌, subst, append_assoc, append-nil}
use Rattle.std.specs.Prelude.{nat_lt}
use Rattle.std.proofs.lemmas.Bool.{and_parts, not-true, or_parts}
use Rattle.yaml_base.specs.PlainEvent.{mapping_end, mapping_start, sequence_end, sequence_start}
use Rattle.yaml_grammar.specs.BlockTexts.{block_at}
use Rattle.yaml_grammar.specs.Blocks.{Behind, BlockNode, Entries, Entry, Items, Room, a_block, a_collection, a_leaf}
use Rattle.yaml_grammar.specs.Blocks.{a_mapping, a_sequence, an_entry, an_item, anything, block_style, in_a_later_line}
use Rattle.yaml_grammar.specs.Blocks.{in_its_line, in_its_own_column, in_line, is_own, is_value, key_alone, later}
use Rattle.yaml_grammar.specs.Blocks.{named_mapping, named_sequence, names_alone, no_entry, no_item, nothing, part}
use Rattle.yaml_grammar.specs.Blocks.{takes_columns, value, with_marks}
use Rattle.yaml_grammar.specs.Brackets.{nothing_here}
use Rattle.yaml_grammar.specs.Bytes.{at, column, is_mark, is_over}
use Rattle.yaml_grammar.specs.Gaps.{ends_its_line, follows, is_at, is_item, is_within, next}
use Rattle.yaml_grammar.specs.Leaves.{leaf_at}
use Rattle.yaml_grammar.specs.Names.{Names, names_at, unnamed}
use Rattle.yaml_grammar.specs.Nodes.{Marked, Node, Nodes, Pairs, end_mark, mapping, mark, no_content, no_nodes}
use Rattle.yaml_grammar.specs.Nodes.{no_pairs}
use Rattle.yaml_grammar.specs.Nodes.{node, node_events, nodes_events, pair, pairs_events, scalar_at, sequence}
use Rattle.yaml_grammar.specs.Plain.{by_columns}
use Rattle.yaml_reading.specs.BlockReader.{begins_entry, behind_step, column_step, columns_at, content_at}
use Rattle.yaml_reading.specs.BlockReader.{content_step, entries, entry_step, here_step, in_room, item_behind}
use Rattle.yaml_reading.specs.BlockReader.{items, later_step, line_step, marked_step, node_step}
use Rattle.yaml_reading.specs.BlockReader.{with_line_end}
use Rattle.yaml_reading.specs.BracketReader.{brackets_at, names_step}
use Rattle.yaml_reading.specs.Readers.{Read, Reader, alone, and_event, and_node, and_then, no_more, with_leaf}
use Rattle.yaml_reading.proofs.BlockApart.{Content, of_collection, of_leaf, of_lines}
use Rattle.yaml_reading.proofs.BlockSteps.{begins_is, behind_is, behind_within, column_is, columns_entries}
use Rattle.yaml_reading.proofs.BlockSteps.{columns_items}
use Rattle.yaml_reading.proofs.BlockSteps.{content_is, entries_within, entry_is, entry_within, items_within, key_within}
use Rattle.yaml_reading.proofs.BlockSteps.{no_columns, node_behind_is, node_is, node_within}
use Rattle.yaml_reading.proofs.BracketSound.{brackets_sound, leaf_read}
use Rattle.yaml_reading.proofs.BracketSteps.{between}
use Rattle.yaml_reading.proofs.KeyReading.{key_sound}
use Rattle.yaml_reading.proofs.Options.{map_some, no_some, pair_is, then_some}

module _ (text : List ℕ) where
  pub record IsNode (d least : ℕ) (room : Room) (i j : ℕ) (es es' : List Marked) : Type 0 where
    pub n : Node
    pub stands : BlockNode text d least room i j n
    pub said : es' ≡ and_node es n

  record IsContent (d least i : ℕ) (names : Names) (q j : ℕ) (es es' : List Marked) : Type 0 where
    n : Node
    stands : Content text d least i names q j n
    said : es' ≡ and_node es n

  record IsBehind (d c : ℕ) (room : Room) (i j : ℕ) (es es' : List Marked) : Type 0 where
    n : Node
    stands : Behind text d c room i j n
    said : es' ≡ and_node es n

  record AreItems (d c i j : ℕ) (es es' : List Marked) : Type 0 where
    ns : Nodes
    stand : Items text d c i j ns
    said : es' ≡ es ++ nodes_events ns

  record IsEntry (d c i j : ℕ) (es es' : List Marked) : Type 0 where
    m : Node
    n : Node
    stands : Entry text d c i j m n
    said : es' ≡ and_node (and_node es m) n

  record AreEntries (d c i j : ℕ) (es es' : List Marked) : Type 0 where
    ps : Pairs
    stand : Entries text d c i j ps
    said : es' ≡ es ++ pairs_events ps

  -- a collection within fewer nestings
  record IsSequence (d : ℕ) (names : Names) (start c i j : ℕ) (es es' : List Marked) : Type 0 where
    less : ℕ
    deep : d ≡ suc less
    ns : Nodes
    stand : Items text less c i j ns
    said : es' ≡ and_node es (sequence (mark text start) names ns (end_mark text c j))

  record IsMapping (d : ℕ) (names : Names) (start c i j : ℕ) (es es' : List Marked) : Type 0 where
    less : ℕ
    deep : d ≡ suc less
    ps : Pairs
    stand : Entries text less c i j ps
    said : es' ≡ and_node es (mapping (mark text start) names ps (end_mark text c j))

  -- what is read as a collection within so many nestings stands
  pub record ColumnsSound (d : ℕ) : Type 0 where
    sequences : (names : Names) (start c : ℕ) (es : List Marked) (i : ℕ) (es' : List Marked) (j : ℕ)
        → columns_at text d items names start c es i ≡ Some (es', j) → IsSequence d names start c i j es es'
    mappings : (names : Names) (start c : ℕ) (es : List Marked) (i : ℕ) (es' : List Marked) (j : ℕ)
        → columns_at text d entries names start c es i ≡ Some (es', j) → IsMapping d names start c i j es es'

  -- what ends its line
  record IsLine (r : Read) (es' : List Marked) (j : ℕ) : Type 0 where
    e : ℕ
    read : r ≡ Some (es', e)
    ends : ends_its_line text e ≡ true
    place : next text e ≡ j

  line_by : (es : List Marked) (e : ℕ) (es' : List Marked) (j : ℕ) (x : Bool) → ends_its_line text e ≡ x
      → line_step text es e x ≡ Some (es', j) → IsLine (Some (es, e)) es' j
  line_by es e es' j true c h =
      let q = pair_is es es' (next text e) j h in
      record { e = e; read = ap (λ l. Some (l, e)) q.0; ends = c; place = q.1 }
  line_by es e es' j false c h = absurd (no_some (es', j) h)

  line_read : (r : Read) (es' : List Marked) (j : ℕ) → with_line_end text r ≡ Some (es', j) → IsLine r es' j
  line_read None es' j h = absurd (no_some (es', j) h)
  line_read (Some (es, e)) es' j h = line_by es e es' j (ends_its_line text e) refl h

  content_by : (d least : ℕ) (es : List Marked) (i : ℕ) (names : Names) (q : ℕ) (es' : List Marked) (j : ℕ) (x y : Bool)
      → content_step text (brackets_at text d) least es i names q x y ≡ Some (es', j)
      → IsContent d least i names q j es es'
  content_by d least es i names q es' j true y h =
      let l = line_read (brackets_at text d names i es q) es' j h in
      let b = brackets_sound text d names i es q es' l.e l.read in
      record {
        n = b.n;
        stands = subst (λ j. Content text d least i names q j b.n) l.place (of_collection b.stands l.ends);
        said = b.said;
      }
  content_by d least es i names q es' j false true h =
      let m = map_some (block_at text least q) _ (es', j) h in
      let n = scalar_at text i names (block_style (at text q)) m.0.1 m.0.0 in
      let r = pair_is (and_node es n) es' (next text m.0.0) j (ap Some m.2) in
      record {
        n = n;
        stands = subst (λ j. Content text d least i names q j n) r.1 (of_lines m.1);
        said = sym r.0;
      }
  content_by d least es i names q es' j false false h =
      let leaf = leaf_at text (by_columns least) q in
      let l = line_read (with_leaf text es i names leaf) es' j h in
      let f = leaf_read text es i names leaf es' l.e l.read in
      record {
        n = f.n;
        stands = subst (λ j. Content text d least i names q j f.n) l.place (of_leaf f.found f.is l.ends);
        said = f.said;
      }

  content_sound : (d least : ℕ) (es : List Marked) (i : ℕ) (names : Names) (q : ℕ) (es' : List Marked) (j : ℕ)
      → content_at text (brackets_at text d) least es i names q ≡ Some (es', j) → IsContent d least i names q j es es'
  content_sound d least es i names q es' j h =
      content_by d least es i names q es' j _ _
      (sym (content_is text (brackets_at text d) least es i names q _ _ refl refl) ∙ h)

  content_stands : {d least i p j : ℕ} {room : Room} {names : Names} {n : Node}
      → names_at text false i ≡ Some (names, p) → follows text least p ≡ true
      → Content text d least i names (next text p) j n → BlockNode text d least room i j n
  content_stands h goes (of_leaf leaf is ends) = a_leaf h goes leaf is ends
  content_stands h goes (of_lines block) = a_block h goes block
  content_stands h goes (of_collection b ends) = a_collection h goes b ends

  content_node : (d least : ℕ) (room : Room) (es : List Marked) (i : ℕ) (names : Names) (p : ℕ) (es' : List Marked)
      (j : ℕ)
      → names_at text false i ≡ Some (names, p) → follows text least p ≡ true
      → content_at text (brackets_at text d) least es i names (next text p) ≡ Some (es', j)
      → IsNode d least room i j es es'
  content_node d least room es i names p es' j h goes r =
      let c = content_sound d least es i names (next text p) es' j r in
      record { n = c.n; stands = content_stands h goes c.stands; said = c.said }

  sequence_here : (d : ℕ) → ColumnsSound d → (least : ℕ) (room : Room) (es : List Marked) (i : ℕ) (es' : List Marked)
      (j : ℕ) (x : Bool) → takes_columns room ≡ x → is_mark text 45 i ≡ true
      → in_room x (columns_at text d items unnamed i (column text i) es i) ≡ Some (es', j)
      → IsNode d least room i j es es'
  sequence_here d sound least room es i es' j false takes dash r = absurd (no_some (es', j) r)
  sequence_here d sound least room es i es' j true takes dash r =
      let s = sound.sequences unnamed i (column text i) es i es' j r in
      let n = sequence (mark text i) unnamed s.ns (end_mark text (column text i) j) in
      record {
        n = n;
        stands = subst (λ d. BlockNode text d least room i j n) (sym s.deep) (a_sequence takes dash s.stand);
        said = s.said;
      }

  mapping_here : (d : ℕ) → ColumnsSound d → (least : ℕ) (room : Room) (es : List Marked) (i : ℕ) (es' : List Marked)
      (j : ℕ) (x : Bool) → takes_columns room ≡ x → is_over text i ≡ false
      → in_room x (columns_at text d entries unnamed i (column text i) es i) ≡ Some (es', j)
      → IsNode d least room i j es es'
  mapping_here d sound least room es i es' j false takes inside r = absurd (no_some (es', j) r)
  mapping_here d sound least room es i es' j true takes inside r =
      let s = sound.mappings unnamed i (column text i) es i es' j r in
      let n = mapping (mark text i) unnamed s.ps (end_mark text (column text i) j) in
      record {
        n = n;
        stands = subst (λ d. BlockNode text d least room i j n) (sym s.deep) (a_mapping takes inside s.stand);
        said = s.said;
      }

  -- where an entry begins the document is not over
  entry_inside : (d i : ℕ) → begins_entry text (brackets_at text d) i ≡ true → is_over text i ≡ false
  entry_inside d i h =
      not-true (is_over text i)
      (and_parts (not (is_over text i)) _
      (sym (begins_is text (brackets_at text d) i _ _ _ refl refl refl) ∙ h)).0

  here_by : (d : ℕ) → ColumnsSound d → (least : ℕ) (room : Room) (es : List Marked) (i : ℕ) (names : Names) (p : ℕ)
      (es' : List Marked) (j : ℕ) (x y : Bool) → names_at text false i ≡ Some (names, p) → ends_its_line text p ≡ false
      → is_mark text 45 i ≡ x → begins_entry text (brackets_at text d) i ≡ y
      → here_step text (columns_at text d) (brackets_at text d) least room es i names p x y ≡ Some (es', j)
      → IsNode d least room i j es es'
  here_by d sound least room es i names p es' j true y h line e f r =
      sequence_here d sound least room es i es' j _ refl e r
  here_by d sound least room es i names p es' j false true h line e f r =
      mapping_here d sound least room es i es' j _ refl (entry_inside d i f) r
  here_by d sound least room es i names p es' j false false h line e f r =
      content_node d least room es i names p es' j h (ap (λ b. not b || is_within text least (next text p)) line) r

  alone_by : (d least : ℕ) (room : Room) (es : List Marked) (i : ℕ) (names : Names) (p : ℕ) (es' : List Marked) (j : ℕ)
      (x : Bool) → names_at text false i ≡ Some (names, p) → ends_its_line text p ≡ true → nat_lt i p ≡ x
      → is_within text least (next text p) ≡ false → is_own text room least (next text p) ≡ false
      → and_then (names_step text es i p names x) (λ ks k. Some (ks, next text k)) ≡ Some (es', j)
      → IsNode d least room i j es es'
  alone_by d least room es i names p es' j false h line some out other r = absurd (no_some (es', j) r)
  alone_by d least room es i names p es' j true h line some out other r =
      let n = alone text i p names in
      let q = pair_is (and_node es n) es' (next text p) j r in
      record {
        n = n;
        stands = subst (λ j. BlockNode text d least room i j n) q.1 (names_alone h some line out other);
        said = sym q.0;
      }

  later_by : (d : ℕ) → ColumnsSound d → (least : ℕ) (room : Room) (es : List Marked) (i : ℕ) (names : Names) (p : ℕ)
      (es' : List Marked) (j : ℕ) (f x w y : Bool) → names_at text false i ≡ Some (names, p)
      → ends_its_line text p ≡ true
      → (is_within text least (next text p) || is_own text room least (next text p)) ≡ f
      → is_mark text 45 (next text p) ≡ x → is_within text least (next text p) ≡ w
      → later_step text (columns_at text d) (brackets_at text d) least es i names p f x w y ≡ Some (es', j)
      → IsNode d least room i j es es'
  later_by d sound least room es i names p es' j false x w y h line goes dash within r =
      let out = or_parts (is_within text least (next text p)) (is_own text room least (next text p)) goes in
      alone_by d least room es i names p es' j _ h line refl out.0 out.1 r
  later_by d sound least room es i names p es' j true true w y h line goes dash within r =
      let q = next text p in
      let s = sound.sequences names i (column text q) es q es' j r in
      let n = sequence (mark text i) names s.ns (end_mark text (column text q) j) in
      record {
        n = n;
        stands = subst (λ d. BlockNode text d least room i j n) (sym s.deep) (named_sequence h line goes dash s.stand);
        said = s.said;
      }
  later_by d sound least room es i names p es' j true false false y h line goes dash within r = absurd
      (no_some (es', j) r)
  later_by d sound least room es i names p es' j true false true true h line goes dash within r =
      let q = next text p in
      let s = sound.mappings names i (column text q) es q es' j r in
      let n = mapping (mark text i) names s.ps (end_mark text (column text q) j) in
      record {
        n = n;
        stands = subst (λ d. BlockNode text d least room i j n) (sym s.deep) (named_mapping h line within s.stand);
        said = s.said;
      }
  later_by d sound least room es i names p es' j true false true false h line goes dash within r =
      content_node d least room es i names p es' j h
      (ap₂ (λ b w. not b || w) line within) r

  node_by : (d : ℕ) → ColumnsSound d → (least : ℕ) (room : Room) (es : List Marked) (i : ℕ) (names : Names) (p : ℕ)
      (es' : List Marked) (j : ℕ) (x : Bool) → names_at text false i ≡ Some (names, p) → ends_its_line text p ≡ x
      → node_step text (columns_at text d) (brackets_at text d) least room es i names p x ≡ Some (es', j)
      → IsNode d least room i j es es'
  node_by d sound least room es i names p es' j false h line r =
      here_by d sound least room es i names p es' j _ _ h line refl refl r
  node_by d sound least room es i names p es' j true h line r =
      later_by d sound least room es i names p es' j _ _ _ _ h line refl refl refl r

  pub node_sound : (d : ℕ) → ColumnsSound d → (least : ℕ) (room : Room) (es : List Marked) (i : ℕ) (es' : List Marked)
      (j : ℕ) → node_within text d least room es i ≡ Some (es', j) → IsNode d least room i j es es'
  node_sound d sound least room es i es' j h =
      let columns = columns_at text d in
      let brackets = brackets_at text d in
      let t = then_some (names_at text false i) _ (es', j)
      (sym (node_is text columns brackets least room es i _ refl) ∙ h) in
      node_by d sound least room es i t.0.0 t.0.1 es' j _ t.1 refl
      (sym (node_behind_is text columns brackets least room es i t.0.0 t.0.1 _ refl) ∙ t.2)

  behind_by : (d : ℕ) → ColumnsSound d → (c : ℕ) (room : Room) (es : List Marked) (i : ℕ) (es' : List Marked) (j : ℕ)
      (x y z : Bool) → ends_its_line text i ≡ x → is_within text (suc c) (next text i) ≡ y
      → is_own text room (suc c) (next text i) ≡ z
      → behind_step text (columns_at text d) (brackets_at text d) c room es i x y z ≡ Some (es', j)
      → IsBehind d c room i j es es'
  behind_by d sound c room es i es' j false y z line inner own r =
      let s = node_sound d sound (suc c) room es (next text i) es' j r in
      record { n = s.n; stands = in_its_line line s.stands; said = s.said }
  behind_by d sound c room es i es' j true true z line inner own r =
      let s = node_sound d sound (suc c) (later room) es (next text i) es' j r in
      record { n = s.n; stands = in_a_later_line line inner s.stands; said = s.said }
  behind_by d sound c room es i es' j true false true line inner own r =
      let s = sound.sequences unnamed (next text i) c es (next text i) es' j r in
      let n = sequence (mark text (next text i)) unnamed s.ns (end_mark text c j) in
      record {
        n = n;
        stands = subst (λ d. Behind text d c room i j n) (sym s.deep) (in_its_own_column line own s.stand);
        said = s.said;
      }
  behind_by d sound c room es i es' j true false false line inner own r =
      let n = nothing_here text i in
      let q = pair_is (and_node es n) es' (next text i) j r in
      record {
        n = n;
        stands = subst (λ j. Behind text d c room i j n) q.1 (nothing line inner own);
        said = sym q.0;
      }

  behind_sound : (d : ℕ) → ColumnsSound d → (c : ℕ) (room : Room) (es : List Marked) (i : ℕ) (es' : List Marked) (j : ℕ)
      → behind_within text d c room es i ≡ Some (es', j) → IsBehind d c room i j es es'
  behind_sound d sound c room es i es' j h =
      behind_by d sound c room es i es' j _ _ _ refl refl refl
      (sym (behind_is text (columns_at text d) (brackets_at text d) c room es i _ _ _ refl refl refl) ∙ h)

  items_by : (d : ℕ) → ColumnsSound d → (c : ℕ) (more : Reader)
      → ((es : List Marked) (i : ℕ) (es' : List Marked) (j : ℕ) → more es i ≡ Some (es', j) → AreItems d c i j es es')
      → (es : List Marked) (i : ℕ) (es' : List Marked) (j : ℕ) (x y : Bool) → is_item text c i ≡ x
      → is_within text (suc c) i ≡ y
      → column_step (item_behind (behind_within text d c anything)) more es i x y ≡ Some (es', j)
      → AreItems d c i j es es'
  items_by d sound c more rest es i es' j true y e f r =
      let b = then_some (behind_within text d c anything es (suc i)) _ (es', j) r in
      let first = behind_sound d sound c anything es (suc i) b.0.0 b.0.1 b.1 in
      let others = rest b.0.0 b.0.1 es' j b.2 in
      record {
        ns = node first.n others.ns;
        stand = an_item e first.stands others.stand;
        said = others.said ∙ ap (λ l. l ++ nodes_events others.ns) first.said
            ∙ append_assoc es (node_events first.n) (nodes_events others.ns);
      }
  items_by d sound c more rest es i es' j false true e f r = absurd (no_some (es', j) r)
  items_by d sound c more rest es i es' j false false e f r =
      let q = pair_is es es' i j r in
      record {
        ns = no_nodes;
        stand = subst (λ j. Items text d c i j no_nodes) q.1 (no_item e f);
        said = sym q.0 ∙ sym (append-nil es);
      }

  items_sound : (d : ℕ) → ColumnsSound d → (c t : ℕ) (es : List Marked) (i : ℕ) (es' : List Marked) (j : ℕ)
      → items_within text d c t es i ≡ Some (es', j) → AreItems d c i j es es'
  items_sound d sound c zero es i es' j h =
      items_by d sound c no_more (λ es i es' j h. absurd (no_some (es', j) h)) es i es' j _ _ refl refl
      (sym (column_is text (is_item text c) (item_behind (behind_within text d c anything)) c zero es i _ _ refl refl)
      ∙ h)
  items_sound d sound c (suc t) es i es' j h =
      items_by d sound c (items_within text d c t) (items_sound d sound c t) es i es' j _ _ refl refl
      (sym (column_is text (is_item text c) (item_behind (behind_within text d c anything)) c (suc t) es i _ _ refl
      refl)
      ∙ h)

  marked_by : (d : ℕ) → ColumnsSound d → (c : ℕ) (es : List Marked) (i k : ℕ) (ks es' : List Marked) (j : ℕ) (x : Bool)
      → is_mark text 63 i ≡ true → IsBehind d c part (suc i) k es ks → is_value text c k ≡ x
      → marked_step text (behind_within text d c part) c ks k x ≡ Some (es', j) → IsEntry d c i j es es'
  marked_by d sound c es i k ks es' j true mark key colon r =
      let v = behind_sound d sound c part ks (suc k) es' j r in
      record {
        m = key.n;
        n = v.n;
        stands = with_marks mark key.stands colon v.stands;
        said = v.said ∙ ap (λ l. and_node l v.n) key.said;
      }
  marked_by d sound c es i k ks es' j false mark key colon r =
      let n = no_content (end_mark text c k) unnamed [] in
      let q = pair_is (and_node ks n) es' k j r in
      record {
        m = key.n;
        n = n;
        stands = subst (λ j. Entry text d c i j key.n n) q.1 (key_alone mark key.stands colon);
        said = sym q.0 ∙ ap (λ l. and_node l n) key.said;
      }

  entry_by : (d : ℕ) → ColumnsSound d → (c : ℕ) (es : List Marked) (i : ℕ) (es' : List Marked) (j : ℕ) (x : Bool)
      → is_mark text 63 i ≡ x
      → entry_step text (key_within text d) (behind_within text d c) c es i x ≡ Some (es', j) → IsEntry d c i j es es'
  entry_by d sound c es i es' j true mark r =
      let b = then_some (behind_within text d c part es (suc i)) _ (es', j) r in
      let key = behind_sound d sound c part es (suc i) b.0.0 b.0.1 b.1 in
      marked_by d sound c es i b.0.1 b.0.0 es' j _ mark key refl b.2
  entry_by d sound c es i es' j false mark r =
      let b = then_some (key_within text d es i) _ (es', j) r in
      let key = key_sound text d es i b.0.0 b.0.1 b.1 in
      let v = behind_sound d sound c value b.0.0 (suc b.0.1) es' j b.2 in
      record {
        m = key.n;
        n = v.n;
        stands = in_line key.stands v.stands;
        said = v.said ∙ ap (λ l. and_node l v.n) key.said;
      }

  entry_sound : (d : ℕ) → ColumnsSound d → (c : ℕ) (es : List Marked) (i : ℕ) (es' : List Marked) (j : ℕ)
      → entry_within text d c es i ≡ Some (es', j) → IsEntry d c i j es es'
  entry_sound d sound c es i es' j h =
      entry_by d sound c es i es' j _ refl
      (sym (entry_is text (key_within text d) (behind_within text d c) c es i _ refl) ∙ h)

  entries_by : (d : ℕ) → ColumnsSound d → (c : ℕ) (more : Reader)
      → ((es : List Marked) (i : ℕ) (es' : List Marked) (j : ℕ) → more es i ≡ Some (es', j) → AreEntries d c i j es es')
      → (es : List Marked) (i : ℕ) (es' : List Marked) (j : ℕ) (x y : Bool) → is_at text c i ≡ x
      → is_within text (suc c) i ≡ y
      → column_step (entry_within text d c) more es i x y ≡ Some (es', j) → AreEntries d c i j es es'
  entries_by d sound c more rest es i es' j true y e f r =
      let b = then_some (entry_within text d c es i) _ (es', j) r in
      let first = entry_sound d sound c es i b.0.0 b.0.1 b.1 in
      let others = rest b.0.0 b.0.1 es' j b.2 in
      record {
        ps = pair first.m first.n others.ps;
        stand = an_entry e first.stands others.stand;
        said = others.said ∙ ap (λ l. l ++ pairs_events others.ps) first.said
            ∙ append_assoc (and_node es first.m) (node_events first.n) (pairs_events others.ps)
            ∙ append_assoc es (node_events first.m) (node_events first.n ++ pairs_events others.ps);
      }
  entries_by d sound c more rest es i es' j false true e f r = absurd (no_some (es', j) r)
  entries_by d sound c more rest es i es' j false false e f r =
      let q = pair_is es es' i j r in
      record {
        ps = no_pairs;
        stand = subst (λ j. Entries text d c i j no_pairs) q.1 (no_entry e f);
        said = sym q.0 ∙ sym (append-nil es);
      }

  entries_sound : (d : ℕ) → ColumnsSound d → (c t : ℕ) (es : List Marked) (i : ℕ) (es' : List Marked) (j : ℕ)
      → entries_within text d c t es i ≡ Some (es', j) → AreEntries d c i j es es'
  entries_sound d sound c zero es i es' j h =
      entries_by d sound c no_more (λ es i es' j h. absurd (no_some (es', j) h)) es i es' j _ _ refl refl
      (sym (column_is text (is_at text c) (entry_within text d c) c zero es i _ _ refl refl) ∙ h)
  entries_sound d sound c (suc t) es i es' j h =
      entries_by d sound c (entries_within text d c t) (entries_sound d sound c t) es i es' j _ _ refl refl
      (sym (column_is text (is_at text c) (entry_within text d c) c (suc t) es i _ _ refl refl) ∙ h)

  sequence_sound : (d : ℕ) → ColumnsSound d → (names : Names) (start c : ℕ) (es : List Marked) (i : ℕ)
      (es' : List Marked) (j : ℕ) → columns_at text (suc d) items names start c es i ≡ Some (es', j)
      → IsSequence (suc d) names start c i j es es'
  sequence_sound d sound names start c es i es' j h =
      let begin : Marked = (sequence_start names.anchor names.tag, mark text start) in
      let t = map_some (items_within text d c (length text) (and_event es begin) i) _ (es', j)
      (sym (columns_items text d names start c es i) ∙ h) in
      let r = items_sound d sound c (length text) (and_event es begin) i t.0.0 t.0.1 t.1 in
      let q = pair_is (and_event t.0.0 (sequence_end, end_mark text c t.0.1)) es' t.0.1 j (ap Some t.2) in
      record {
        less = d;
        deep = refl;
        ns = r.ns;
        stand = subst (λ j. Items text d c i j r.ns) q.1 r.stand;
        said = sym q.0 ∙ ap₂ (λ l j. and_event l (sequence_end, end_mark text c j)) r.said q.1
            ∙ between es (nodes_events r.ns) begin (sequence_end, end_mark text c j);
      }

  mapping_sound : (d : ℕ) → ColumnsSound d → (names : Names) (start c : ℕ) (es : List Marked) (i : ℕ)
      (es' : List Marked) (j : ℕ) → columns_at text (suc d) entries names start c es i ≡ Some (es', j)
      → IsMapping (suc d) names start c i j es es'
  mapping_sound d sound names start c es i es' j h =
      let begin : Marked = (mapping_start names.anchor names.tag, mark text start) in
      let t = map_some (entries_within text d c (length text) (and_event es begin) i) _ (es', j)
      (sym (columns_entries text d names start c es i) ∙ h) in
      let r = entries_sound d sound c (length text) (and_event es begin) i t.0.0 t.0.1 t.1 in
      let q = pair_is (and_event t.0.0 (mapping_end, end_mark text c t.0.1)) es' t.0.1 j (ap Some t.2) in
      record {
        less = d;
        deep = refl;
        ps = r.ps;
        stand = subst (λ j. Entries text d c i j r.ps) q.1 r.stand;
        said = sym q.0 ∙ ap₂ (λ l j. and_event l (mapping_end, end_mark text c j)) r.said q.1
            ∙ between es (pairs_events r.ps) begin (mapping_end, end_mark text c j);
      }

  pub columns_sound : (d : ℕ) → ColumnsSound d
  columns_sound zero = record {
    sequences = λ names start c es i es' j h. absurd
        (no_some (es', j) (sym (no_columns text items names start c es i) ∙ h));
    mappings = λ names start c es i es' j h. absurd
        (no_some (es', j) (sym (no_columns text entries names start c es i) ∙ h));
  }
  columns_sound (suc d) = record {
    sequences = sequence_sound d (columns_sound d);
    mappings = mapping_sound d (columns_sound d);
  }

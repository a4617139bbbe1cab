-- Collections by columns behind an indicator, from what stands of their parts.
use Rattle.std.proofs.Common.{◌≡◌, ℕ, suc, ◌+◌, ◌≤◌, Bool, true, false, ◌==◌, ◌&&◌, ◌||◌, refl}
use Rattle.std.proofs.Common.{ap, ◌∙◌, arith, List, [], ◌∷◌, ◌++◌, length, Option, None, Some, append_assoc}
use Rattle.std.proofs.Common.{replicate}
use Rattle.std.proofs.lemmas.Bool.{false≢true, le-leb}
use Rattle.yaml_base.specs.EmitTree.{EmitNode, emit_sequence_node, emit_mapping_node}
use Rattle.yaml_base.specs.EmitTree.{EmitNodes, emit_node, EmitPairs, emit_pair}
use Rattle.yaml_emit.specs.Places.{item_place}
use Rattle.yaml_emit.specs.StreamTexts.{is_simple_key, items_text, node_text}
use Rattle.yaml_emit.specs.Tags.{printed_tag}
use Rattle.yaml_emit.specs.declared.open.Lead.TheVariants.{Fresh, Indicator}
use Rattle.yaml_grammar.specs.Blocks.{Room, anything, part, value, is_own, takes_columns}
use Rattle.yaml_grammar.specs.Bytes.{column, is_over}
use Rattle.yaml_grammar.specs.Gaps.{is_at, is_item, is_within}
use Rattle.yaml_printed.specs.Printable.{IsTag, no_tag, a_tag}
use Rattle.yaml_printed.proofs.Aheads.{Ahead, deeper, further_out, no_item, no_part}
use Rattle.yaml_printed.proofs.Collections.{behind_space, in_later_line, in_own_column, mapping_here}
use Rattle.yaml_printed.proofs.Collections.{named_mapping_here}
use Rattle.yaml_printed.proofs.Collections.{named_sequence_here, sequence_here}
use Rattle.yaml_printed.proofs.Entries.{EntryIs, KeyIs, begins_inside, line_begins, marked_is, no_item_mark}
use Rattle.yaml_printed.proofs.Entries.{no_over, pairs_line, pairs_stand, simple_is}
use Rattle.yaml_printed.proofs.Finds.{BehindIs, Found, ItemsAre, PairsAre}
use Rattle.yaml_printed.proofs.Finds.{at_item, dash_mark, items_line, items_stand, place_in}
use Rattle.yaml_printed.proofs.Inline.{HereAt, tag_token}
use Rattle.yaml_printed.proofs.Rests.{Rest, rest_is, rest_at, rest_on, rest_in, rest_skip, rest_inside, column_in}
use Rattle.yaml_printed.proofs.Rests.{a_space, column_step, next_line}
use Rattle.yaml_printed.proofs.TagNames.{names_tag}
use Rattle.yaml_printed.proofs.TagBytes.{a_line}
use Rattle.yaml_printed.proofs.TreeEnds.{Line, begins_gap, behind_indicator, line_column, more_gap, node_gap}
use Rattle.yaml_printed.proofs.ScalarNodes.{an_own, here_found}
use Rattle.yaml_printed.proofs.Words.{and_no, or_yes}

module _ (text : List ℕ) where
  pub line_column' : (i l : ℕ) (xs : List ℕ) → Rest text i (10 ∷ (replicate l 32 ++ xs)) → column text (suc i + l) ≡ l
  line_column' i l xs r =
      let line : Line text (suc i) = record { back = i; same = refl; feed = rest_at r } in
      column_in l xs (rest_on r) ∙ omega (arith, line_column line)

  pub rest_at_line : (i l : ℕ) (xs : List ℕ) → Rest text i (10 ∷ (replicate l 32 ++ xs)) → Rest text (suc i + l) xs
  rest_at_line i l xs r = rest_in l xs (rest_on r)

  dash_no_over : (i : ℕ) (ys : List ℕ) → Rest text i (45 ∷ ys) → begins_gap ys ≡ true → is_over text i ≡ false
  dash_no_over i [] r h = absurd (false≢true h)
  dash_no_over i (y ∷ ys) r h =
      let other : (y == 45) ≡ false = grind (arith, h) in
      rw (rest_inside r, r.same, other) (and_no (column text i == 0))

  pub within_is : (least l k : ℕ) → least ≤ l → column text k ≡ l → is_over text k ≡ false
      → is_within text least k ≡ true
  within_is least l k le col over = rw (over, col) (le-leb least l le)

  module _ (d c : ℕ) (n : EmitNode) (ns : EmitNodes) (one : (q : ℕ) → BehindIs text d q anything n)
      (more : (q : ℕ) → ItemsAre text d q ns) where
    first_gap : (q : ℕ) (after : List ℕ) → begins_gap ((node_text (item_place q) n ++ items_text Fresh q ns)
        ++ after) ≡ true
    first_gap q after =
        more_gap (node_text (item_place q) n ++ items_text Fresh q ns) after
        (more_gap (node_text (item_place q) n) (items_text Fresh q ns)
        (node_gap Indicator (q + 2) (q + 2) n behind_indicator))

    -- in the line of an indicator
    compact_items : (room : Room) → takes_columns room ≡ true → (i e j : ℕ) (after : List ℕ)
        → Rest text i (32 ∷ (items_line (c + 2) n ns ++ after)) → column text i ≡ suc c → Ahead text (suc c) e j after
        → Found text (suc d) c room i j (emit_sequence_node None (emit_node n ns))
    compact_items room takes i e j after r col a =
        let q = c + 2 in
        let r1 : Rest text (suc i) (items_line q n ns ++ after) = rest_on r in
        let col1 : column text (suc i) ≡ q = column_step a_space r ∙ omega (arith, col) in
        let x = items_stand text d q n ns (one q) (more q) (suc i) e j after r1 col1 (deeper (omega arith) a)
        (no_item q (omega arith) a) in
        behind_space text (suc d) c room i j (emit_sequence_node None (emit_node n ns)) (items_line q n ns ++ after)
        r refl
        (rest_inside r1)
        (sequence_here text d q (suc i) j (suc c) room (emit_node n ns) takes
        (dash_mark text q n ns (suc i) after r1) col1 x)

    -- in the column of the mapping
    own_items : (i e j : ℕ) (after : List ℕ) → Rest text i (10 ∷ (replicate c 32 ++ (items_line c n ns ++ after)))
        → Ahead text (suc c) e j after → is_item text c j ≡ false
        → Found text (suc d) c value i j (emit_sequence_node None (emit_node n ns))
    own_items i e j after r a end =
        let k = suc i + c in
        let r1 : Rest text k (items_line c n ns ++ after) = rest_at_line i c (items_line c n ns ++ after) r in
        let col = line_column' i c (items_line c n ns ++ after) r in
        let x = items_stand text d c n ns (one c) (more c) k e j after r1 col a end in
        in_own_column text d c value i j k (emit_node n ns) (next_line c (items_line c n ns ++ after) r refl)
        (an_own text value c k refl (at_item text c k (dash_mark text c n ns k after r1) col)) x

    -- behind a tag, in a line of their own
    pub tagged_items : (least l : ℕ) (room : Room) (t : ℕ) (ts : List ℕ) → IsTag (Some (t ∷ ts))
        → (i e j : ℕ) (after : List ℕ)
        → Rest text i ((printed_tag (t ∷ ts) ++ ((10 ∷ replicate l 32) ++ items_line l n ns)) ++ after)
        → ((k : ℕ) → column text k ≡ l → is_over text k ≡ false → is_item text l k ≡ true
        → (is_within text least k || is_own text room least k) ≡ true)
        → Ahead text (suc l) e j after → is_item text l j ≡ false
        → HereAt text (suc d) least room i j (emit_sequence_node (Some (t ∷ ts)) (emit_node n ns))
        ((printed_tag (t ∷ ts) ++ ((10 ∷ replicate l 32) ++ items_line l n ns)) ++ after)
    tagged_items least l room t ts f i e j after r within a end =
        let tag = printed_tag (t ∷ ts) in
        let rest = items_line l n ns ++ after in
        let r1 : Rest text i (tag ++ (10 ∷ (replicate l 32 ++ rest)))
        = rest_is (append_assoc tag ((10 ∷ replicate l 32) ++ items_line l n ns) after
        ∙ ap (λ x. tag ++ (10 ∷ x)) (append_assoc (replicate l 32) (items_line l n ns) after)) r in
        let p = i + length tag in
        let r2 : Rest text p (10 ∷ (replicate l 32 ++ rest)) = rest_skip tag r1 in
        let k = suc p + l in
        let r3 : Rest text k rest = rest_at_line p l rest r2 in
        let col : column text k ≡ l = line_column' p l rest r2 in
        let dash = dash_mark text l n ns k after r3 in
        let over = dash_no_over k ((node_text (item_place l) n ++ items_text Fresh l ns) ++ after) r3
        (first_gap l after) in
        let x = items_stand text d l n ns (one l) (more l) k e j after r3 col a end in
        record {
          here = named_sequence_here text d l i j least room (Some (t ∷ ts)) p k (emit_node n ns)
              (names_tag (10 ∷ (replicate l 32 ++ rest)) (t ∷ ts) f r1 a_line) (next_line l rest r2 refl)
              (within k col over (at_item text l k dash col)) dash col x;
          token = tag_token (t ∷ ts) ((10 ∷ replicate l 32) ++ items_line l n ns) after;
        }

  module _ (d c : ℕ) (k v : EmitNode) (ps : EmitPairs) (one : (q : ℕ) → EntryIs text d q k v (is_simple_key k))
      (more : (q : ℕ) → PairsAre text d q ps) where
    -- in the line of an indicator
    compact_pairs : (room : Room) → takes_columns room ≡ true → (i e j : ℕ) (after : List ℕ)
        → Rest text i (32 ∷ (pairs_line (c + 2) k v ps ++ after)) → column text i ≡ suc c → Ahead text (suc c) e j after
        → Found text (suc d) c room i j (emit_mapping_node None (emit_pair k v ps))
    compact_pairs room takes i e j after r col a =
        let q = c + 2 in
        let r1 : Rest text (suc i) (pairs_line q k v ps ++ after) = rest_on r in
        let col1 : column text (suc i) ≡ q = column_step a_space r ∙ omega (arith, col) in
        let b = line_begins ps after (one q) in
        let x = pairs_stand text d q k v ps (one q) (more q) (suc i) e j after r1 col1 (deeper (omega arith) a)
        (no_part q (omega arith) a) (no_item q (omega arith) a) in
        behind_space text (suc d) c room i j (emit_mapping_node None (emit_pair k v ps))
        (pairs_line q k v ps ++ after) r
        b.token (begins_inside b r1)
        (mapping_here text d q (suc i) j (suc c) room (emit_pair k v ps) takes (no_over b r1) col1 x)

    -- in a line of their own
    later_pairs : (i e j : ℕ) (after : List ℕ)
        → Rest text i (10 ∷ (replicate (c + 2) 32 ++ (pairs_line (c + 2) k v ps ++ after)))
        → Ahead text (suc c) e j after
        → Found text (suc d) c value i j (emit_mapping_node None (emit_pair k v ps))
    later_pairs i e j after r a =
        let q = c + 2 in
        let rest = pairs_line q k v ps ++ after in
        let m = suc i + q in
        let r1 : Rest text m rest = rest_at_line i q rest r in
        let col = line_column' i q rest r in
        let b = line_begins ps after (one q) in
        let x = pairs_stand text d q k v ps (one q) (more q) m e j after r1 col (deeper (omega arith) a)
        (no_part q (omega arith) a) (no_item q (omega arith) a) in
        in_later_line text (suc d) c value i j m (emit_mapping_node None (emit_pair k v ps))
        (next_line q rest r b.token)
        (within_is (suc c) q m (omega arith) col (no_over b r1))
        (mapping_here text d q m j (suc c) part (emit_pair k v ps) refl (no_over b r1) col x)

    -- behind a tag, in a line of their own
    pub tagged_pairs : (least l : ℕ) → least ≤ l → (room : Room) (t : ℕ) (ts : List ℕ) → IsTag (Some (t ∷ ts))
        → (i e j : ℕ)
        (after : List ℕ) → Rest text i ((printed_tag (t ∷ ts) ++ ((10 ∷ replicate l 32) ++ pairs_line l k v ps))
        ++ after)
        → Ahead text (suc l) e j after → is_at text l j ≡ false → is_item text l j ≡ false
        → HereAt text (suc d) least room i j (emit_mapping_node (Some (t ∷ ts)) (emit_pair k v ps))
        ((printed_tag (t ∷ ts) ++ ((10 ∷ replicate l 32) ++ pairs_line l k v ps)) ++ after)
    tagged_pairs least l le room t ts f i e j after r a un no_dash =
        let tag = printed_tag (t ∷ ts) in
        let rest = pairs_line l k v ps ++ after in
        let r1 : Rest text i (tag ++ (10 ∷ (replicate l 32 ++ rest)))
        = rest_is (append_assoc tag ((10 ∷ replicate l 32) ++ pairs_line l k v ps) after
        ∙ ap (λ x. tag ++ (10 ∷ x)) (append_assoc (replicate l 32) (pairs_line l k v ps) after)) r in
        let p = i + length tag in
        let r2 : Rest text p (10 ∷ (replicate l 32 ++ rest)) = rest_skip tag r1 in
        let m = suc p + l in
        let r3 : Rest text m rest = rest_at_line p l rest r2 in
        let col : column text m ≡ l = line_column' p l rest r2 in
        let b = line_begins ps after (one l) in
        let x = pairs_stand text d l k v ps (one l) (more l) m e j after r3 col a un no_dash in
        record {
          here = named_mapping_here text d l i j least room (Some (t ∷ ts)) p m (emit_pair k v ps)
              (names_tag (10 ∷ (replicate l 32 ++ rest)) (t ∷ ts) f r1 a_line) (next_line l rest r2 b.token)
              (within_is least l m le col (no_over b r3)) col x;
          token = tag_token (t ∷ ts) ((10 ∷ replicate l 32) ++ pairs_line l k v ps) after;
        }

  -- a sequence behind an indicator
  pub items_found : (d c : ℕ) (room : Room) (tag : Option (List ℕ)) → IsTag tag → (n : EmitNode) (ns : EmitNodes)
      → ((q : ℕ) → BehindIs text d q anything n) → ((q : ℕ) → ItemsAre text d q ns)
      → BehindIs text (suc d) c room (emit_sequence_node tag (emit_node n ns))
  items_found d c anything _ no_tag n ns one more i e j after r col a own =
      compact_items d c n ns one more anything refl i e j after r (col refl) a
  items_found d c part _ no_tag n ns one more i e j after r col a own =
      compact_items d c n ns one more part refl i e j after r (col refl) a
  items_found d c value _ no_tag n ns one more i e j after r col a own =
      own_items d c n ns one more i e j after
      (rest_is (ap (λ l. 10 ∷ l) (append_assoc (replicate c 32) (items_line c n ns) after)) r) a (own refl)
  items_found d c anything _ (a_tag {c = t} {cs = ts} u z) n ns one more i e j after r col a own =
      let q = c + 2 in
      here_found text (suc d) c anything i j (emit_sequence_node (Some (t ∷ ts)) (emit_node n ns))
      ((printed_tag (t ∷ ts) ++ ((10 ∷ replicate q 32) ++ items_line q n ns)) ++ after) r
      (tagged_items d c n ns one more (suc c) q anything t ts (a_tag u z) (suc i) e j after (rest_on r)
      (λ k col over item. rw (within_is (suc c) q k (omega arith) col over) refl)
      (deeper (omega arith) a) (no_item q (omega arith) a))
  items_found d c part _ (a_tag {c = t} {cs = ts} u z) n ns one more i e j after r col a own =
      here_found text (suc d) c part i j (emit_sequence_node (Some (t ∷ ts)) (emit_node n ns))
      ((printed_tag (t ∷ ts) ++ ((10 ∷ replicate c 32) ++ items_line c n ns)) ++ after) r
      (tagged_items d c n ns one more (suc c) c part t ts (a_tag u z) (suc i) e j after (rest_on r)
      (λ k col over item. rw (an_own text part c k refl item) (or_yes (is_within text (suc c) k)))
      a (own refl))
  items_found d c value _ (a_tag {c = t} {cs = ts} u z) n ns one more i e j after r col a own =
      here_found text (suc d) c value i j (emit_sequence_node (Some (t ∷ ts)) (emit_node n ns))
      ((printed_tag (t ∷ ts) ++ ((10 ∷ replicate c 32) ++ items_line c n ns)) ++ after) r
      (tagged_items d c n ns one more (suc c) c value t ts (a_tag u z) (suc i) e j after (rest_on r)
      (λ k col over item. rw (an_own text value c k refl item) (or_yes (is_within text (suc c) k)))
      a (own refl))

  -- a mapping behind an indicator
  pub pairs_found : (d c : ℕ) (room : Room) (tag : Option (List ℕ)) → IsTag tag → (k v : EmitNode) (ps : EmitPairs)
      → ((q : ℕ) → EntryIs text d q k v (is_simple_key k)) → ((q : ℕ) → PairsAre text d q ps)
      → BehindIs text (suc d) c room (emit_mapping_node tag (emit_pair k v ps))
  pairs_found d c anything _ no_tag k v ps one more i e j after r col a own =
      compact_pairs d c k v ps one more anything refl i e j after r (col refl) a
  pairs_found d c part _ no_tag k v ps one more i e j after r col a own =
      compact_pairs d c k v ps one more part refl i e j after r (col refl) a
  pairs_found d c value _ no_tag k v ps one more i e j after r col a own =
      later_pairs d c k v ps one more i e j after
      (rest_is (ap (λ l. 10 ∷ l) (append_assoc (replicate (c + 2) 32) (pairs_line (c + 2) k v ps) after)) r) a
  pairs_found d c room _ (a_tag {c = t} {cs = ts} u z) k v ps one more i e j after r col a own =
      let q = c + 2 in
      let n = emit_mapping_node (Some (t ∷ ts)) (emit_pair k v ps) in
      let xs = (printed_tag (t ∷ ts) ++ ((10 ∷ replicate q 32) ++ pairs_line q k v ps)) ++ after in
      let r1 : Rest text i (32 ∷ xs) = rest_is (ap (λ l. l ++ after) (tagged_in room)) r in
      here_found text (suc d) c room i j n xs r1
      (tagged_pairs d c k v ps one more (suc c) q (omega arith) room t ts (a_tag u z) (suc i) e j after (rest_on r1)
      (deeper (omega arith) a) (no_part q (omega arith) a) (no_item q (omega arith) a))
    where
      tagged_in : (room : Room) → node_text (place_in room c) (emit_mapping_node (Some (t ∷ ts)) (emit_pair k v ps))
          ≡ 32 ∷ (printed_tag (t ∷ ts) ++ ((10 ∷ replicate (c + 2) 32) ++ pairs_line (c + 2) k v ps))
      tagged_in anything = refl
      tagged_in part = refl
      tagged_in value = refl

  -- the further items of a sequence
  pub items_more : (d c : ℕ) (n : EmitNode) (ns : EmitNodes) → BehindIs text d c anything n → ItemsAre text d c ns
      → ItemsAre text d c (emit_node n ns)
  items_more d c n ns one more i e j after r l a end =
      let rest = items_line c n ns ++ after in
      let same = append_assoc (replicate c 32) (items_line c n ns) after in
      let r1 : Rest text i (replicate c 32 ++ rest) = rest_is same r in
      record {
        k = i + c;
        ahead = record {
          blanks = c;
          token = rest;
          rest = r;
          is = same;
          begins = refl;
          start = l;
          there = refl;
          stops = further_out (omega arith);
        };
        found = items_stand text d c n ns one more (i + c) e j after (rest_in c rest r1)
            (column_in c rest r1 ∙ omega (arith, line_column l)) a end;
      }

  -- the further pairs of a mapping
  pub pairs_more : (d c : ℕ) (k v : EmitNode) (ps : EmitPairs) → EntryIs text d c k v (is_simple_key k)
      → PairsAre text d c ps
      → PairsAre text d c (emit_pair k v ps)
  pairs_more d c k v ps one more i e j after r l a un no_dash =
      let rest = pairs_line c k v ps ++ after in
      let same = append_assoc (replicate c 32) (pairs_line c k v ps) after in
      let r1 : Rest text i (replicate c 32 ++ rest) = rest_is same r in
      let r2 : Rest text (i + c) rest = rest_in c rest r1 in
      let b = line_begins ps after one in
      record {
        k = i + c;
        ahead = record {
          blanks = c;
          token = rest;
          rest = r;
          is = same;
          begins = b.token;
          start = l;
          there = refl;
          stops = further_out (omega arith);
        };
        no_dash = ap (λ x. x && column text (i + c) == c) (no_item_mark b r2);
        found = pairs_stand text d c k v ps one more (i + c) e j after r2
            (column_in c rest r1 ∙ omega (arith, line_column l)) a un no_dash;
      }

  pub entry_by : (d c : ℕ) (k v : EmitNode) (simple : Bool) → (simple ≡ true → KeyIs text d c k)
      → (simple ≡ false → BehindIs text d c part k) → ((room : Room) → BehindIs text d c room v)
      → EntryIs text d c k v simple
  entry_by d c k v true key far one = simple_is text d c k v (key refl) (one value)
  entry_by d c k v false key far one = marked_is text d c k v (far refl) (one part)

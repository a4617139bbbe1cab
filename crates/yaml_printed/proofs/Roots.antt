-- The root of a document stands where it is printed.
use Rattle.std.proofs.Common.{◌≡◌, ◌≢◌, ℕ, suc, ◌+◌, Bool, true, false, ◌==◌, refl, sym}
use Rattle.std.proofs.Common.{subst, ap, ◌∙◌, arith, List, [], ◌∷◌, ◌++◌, Option, None, Some}
use Rattle.std.proofs.Common.{replicate}
use Rattle.std.proofs.lemmas.Bool.{false≢true}
use Rattle.std.specs.Prelude.{IsTrue}
use Rattle.std.specs.Str.{IsUtf8}
use Rattle.yaml_base.specs.EmitTree.{EmitNode, emit_scalar_node, emit_sequence_node, emit_mapping_node}
use Rattle.yaml_base.specs.EmitTree.{EmitNodes, no_emit_nodes, emit_node, no_emit_pairs, emit_pair}
use Rattle.yaml_base.specs.EmitTree.{emit_node_events}
use Rattle.yaml_base.specs.MarkedEvents.{events_in}
use Rattle.yaml_base.specs.Renders.{Renders, permits}
use Rattle.yaml_base.specs.declared.emitter.AskedStyle.{AskedStyle}
use Rattle.yaml_base.specs.declared.event.ScalarStyle.TheVariants as style
use Rattle.yaml_emit.specs.Places.{item_place, root_place}
use Rattle.yaml_emit.specs.Scalars.{in_style}
use Rattle.yaml_emit.specs.StreamTexts.{is_literal, is_simple_key, leaf_text, node_text}
use Rattle.yaml_emit.specs.StreamTexts.{items_text, tag_or_empty}
use Rattle.yaml_emit.specs.Styles.{chosen_style}
use Rattle.yaml_emit.specs.Tags.{printed_tag}
use Rattle.yaml_emit.specs.declared.open.Lead.TheVariants.{Fresh, Indicator, Text}
use Rattle.yaml_emit.specs.declared.style.Style.{Style}
use Rattle.yaml_emit.specs.declared.style.Style.TheVariants.{Plain, SingleQuoted, DoubleQuoted, Literal}
use Rattle.yaml_grammar.specs.Blocks.{BlockNode, anything, part, value}
use Rattle.yaml_grammar.specs.Bytes.{column, is_over, parts}
use Rattle.yaml_grammar.specs.Documents.{Root, most_nestings}
use Rattle.yaml_grammar.specs.Documents.{no_root, root_in_a_later_line}
use Rattle.yaml_grammar.specs.Documents.{root_in_its_line}
use Rattle.yaml_grammar.specs.Gaps.{next}
use Rattle.yaml_grammar.specs.Names.{unnamed}
use Rattle.yaml_grammar.specs.Nodes.{Node, end_mark, no_content, node_events}
use Rattle.yaml_printed.specs.Printable.{IsPrintable, IsTag, no_tag, a_tag, may_ask}
use Rattle.yaml_printed.specs.Printable.{a_scalar, a_sequence, a_mapping, no_items, an_item, no_pairs, a_pair}
use Rattle.yaml_printed.proofs.Aheads.{Ahead, Stops, further_out, at_end, deeper, next_ahead, no_item, no_part, over_of}
use Rattle.yaml_printed.proofs.Aheads.{token_column}
use Rattle.yaml_printed.proofs.Aheads.{token_rest}
use Rattle.yaml_printed.proofs.ChosenStyles.{Chosen, chosen, is_plain, is_single, is_double, is_block}
use Rattle.yaml_printed.proofs.Collections.{mapping_here, sequence_here}
use Rattle.yaml_printed.proofs.Contents.{items_complete, pairs_complete}
use Rattle.yaml_printed.proofs.Entries.{line_begins, no_over, pairs_line, pairs_stand}
use Rattle.yaml_printed.proofs.Finds.{Here, dash_mark, items_line, items_stand}
use Rattle.yaml_printed.proofs.Inline.{HereAt, Token, token_inside, content_here, fresh_text}
use Rattle.yaml_printed.proofs.Keys.{key_is}
use Rattle.yaml_printed.proofs.Nodes.{items_behind, node_behind}
use Rattle.yaml_printed.proofs.ColumnNodes.{entry_by, line_column'}
use Rattle.yaml_printed.proofs.ScalarNodes.{lead_text}
use Rattle.yaml_printed.proofs.Nodes.{pairs_behind}
use Rattle.yaml_printed.proofs.ColumnNodes.{rest_at_line, tagged_items, tagged_pairs, within_is}
use Rattle.yaml_printed.proofs.Rests.{Rest, rest_is, rest_on, rest_place}
use Rattle.yaml_printed.proofs.Rests.{line_ends, line_goes_on, next_line, next_space, Next}
use Rattle.yaml_printed.proofs.ScalarLines.{is_bare, scalar_here}
use Rattle.yaml_printed.proofs.PlainFits.{quote_word}
use Rattle.yaml_printed.proofs.TreeEnds.{begins_gap, behind_indicator, more_gap}
use Rattle.yaml_printed.proofs.TreeEnds.{node_gap}
use Rattle.yaml_printed.proofs.Words.{and_no}

-- what is bare has a line feed alone
bare_text : (indent : ℕ) (tag : Option (List ℕ)) (s : Style) (t : List ℕ) → is_bare tag s t ≡ true
    → fresh_text tag (in_style indent s t) (is_literal s) ≡ 10 ∷ []
bare_text indent (Some t) s x e = absurd (false≢true e)
bare_text indent None Plain [] e = refl
bare_text indent None Plain (c ∷ cs) e = absurd (false≢true e)
bare_text indent None SingleQuoted t e = absurd (false≢true e)
bare_text indent None DoubleQuoted t e = absurd (false≢true e)
bare_text indent None Literal t e = absurd (false≢true e)

some_text : (indent : ℕ) (tag : Option (List ℕ)) (s : Style) (t : List ℕ) (b : Bool) → is_bare tag s t ≡ b
    → fresh_text tag (in_style indent s t) (is_literal s) ≢ 10 ∷ [] → is_bare tag s t ≡ false
some_text indent tag s t true e some = absurd (some (bare_text indent tag s t e))
some_text indent tag s t false e some = e

module _ (text : List ℕ) where
  items_token : (q : ℕ) (n : EmitNode) (ns : EmitNodes) (after : List ℕ) → Token (items_line q n ns ++ after)
  items_token q n ns after =
      record {
        some = λ e. absurd (cc);
        token = refl;
        whole = dash_parts
            ((node_text (item_place q) n ++ items_text Fresh q ns) ++ after) gap;
      }
    where
      gap : begins_gap ((node_text (item_place q) n ++ items_text Fresh q ns) ++ after) ≡ true
      gap = more_gap (node_text (item_place q) n ++ items_text Fresh q ns) after
          (more_gap (node_text (item_place q) n) (items_text Fresh q ns)
          (node_gap Indicator (q + 2) (q + 2) n behind_indicator))

      dash_parts : (ys : List ℕ) → begins_gap ys ≡ true → parts (45 ∷ ys) ≡ false
      dash_parts [] h = absurd (false≢true h)
      dash_parts (y ∷ ys) h =
          let other : (y == 45) ≡ false = grind (arith, h) in
          rw other refl

  pub token_over : (i : ℕ) (xs : List ℕ) → Token xs → Rest text i xs → is_over text i ≡ false
  token_over i xs t r = rw (token_inside t r, r.same, t.whole) (and_no (column text i == 0))

  -- ---- the first root

  pub root_first : {d : ℕ} {n : EmitNode} {key : Bool} → IsPrintable d key n → key ≡ false
      → node_text (root_place Fresh) n ≢ 10 ∷ []
      → (i e j : ℕ) (after : List ℕ) → Rest text i (node_text (root_place Fresh) n ++ after) → column text i ≡ 0
      → Ahead text 0 e j after → HereAt text d 0 anything i j n (node_text (root_place Fresh) n ++ after)
  root_first (a_scalar {tag = tag} {text = t} {style = ask} f u may) no_key some i e j after r col a =
      let s = chosen_style t ask false in
      scalar_here 2 tag f t u s (chosen ask false t (ap (λ b. may_ask ask b t) (sym no_key) ∙ may))
      (some_text 2 tag s t (is_bare tag s t) refl some) refl anything i after r a refl
  root_first (a_sequence {tag = tag} f no_items) no_key some i e j after r col a =
      content_here tag f 91 (93 ∷ []) false anything i after r (quote_word 91 refl) (λ ys. refl)
      (λ k q. items_complete a q)
  root_first (a_sequence {d = d} no_tag (an_item {n = n} {ns = ns} g gs)) no_key some i e j after r col a =
      let x = items_stand text d 0 n ns (node_behind text g refl anything 0) (items_behind text gs 0) i e j after r col
      (deeper (omega arith) a) (no_item 0 (omega arith) a) in
      record {
        here = sequence_here text d 0 i j 0 anything (emit_node n ns) refl (dash_mark text 0 n ns i after r) col x;
        token = items_token 0 n ns after;
      }
  root_first (a_sequence {d = d} (a_tag {c = t} {cs = ts} u z) (an_item {n = n} {ns = ns} g gs)) no_key some i e j
      after r col a =
      tagged_items text d 0 n ns (λ q. node_behind text g refl anything q) (λ q. items_behind text gs q) 0 0 anything
      t ts
      (a_tag u z) i e j after r (λ k c over item. rw (within_is text 0 0 k (omega arith) c over) refl)
      (deeper (omega arith) a) (no_item 0 (omega arith) a)
  root_first (a_mapping {tag = tag} f no_pairs) no_key some i e j after r col a =
      content_here tag f 123 (125 ∷ []) false anything i after r (quote_word 123 refl) (λ ys. refl)
      (λ k q. pairs_complete a q)
  root_first (a_mapping {d = d} no_tag (a_pair {k = k} {v = v} {ps = ps} g h hs)) no_key some i e j after r col a =
      let one = entry_by text d 0 k v (is_simple_key k) (λ s. key_is text d 0 k g s) (λ s. node_behind text g s part 0)
      (λ room. node_behind text h refl room 0) in
      let b = line_begins ps after one in
      let x = pairs_stand text d 0 k v ps one (pairs_behind text hs 0) i e j after r col (deeper (omega arith) a)
      (no_part 0 (omega arith) a) (no_item 0 (omega arith) a) in
      record {
        here = mapping_here text d 0 i j 0 anything (emit_pair k v ps) refl (no_over b r) col x;
        token = record { some = b.some; token = b.token; whole = b.whole };
      }
  root_first (a_mapping {d = d} (a_tag {c = t} {cs = ts} u z) (a_pair {k = k} {v = v} {ps = ps} g h hs)) no_key some
      i e j after r col a =
      tagged_pairs text d 0 k v ps
      (λ q. entry_by text d q k v (is_simple_key k) (λ s. key_is text d q k g s) (λ s. node_behind text g s part q)
      (λ room. node_behind text h refl room q)) (λ q. pairs_behind text hs q) 0 0 (omega arith) anything t ts
      (a_tag u z) i e j after r (deeper (omega arith) a) (no_part 0 (omega arith) a) (no_item 0 (omega arith) a)

  -- ---- a root behind `---`

  pub record RootFound (i j : ℕ) (n : EmitNode) : Type 0 where
    pub node : Node
    pub root : Root text i j node
    pub same : Renders (emit_node_events n) (events_in (node_events node))

  root_in_line : (i j : ℕ) (n : EmitNode) (xs : List ℕ) → Rest text i (32 ∷ xs)
      → HereAt text most_nestings 0 value (suc i) j n xs → RootFound i j n
  root_in_line i j n xs r x =
      let s = next_space r x.token.token in
      record {
        node = x.here.node;
        root = root_in_its_line (line_goes_on s (token_inside x.token (rest_on r)))
            (subst (λ k. BlockNode text most_nestings 0 value k j x.here.node) (sym s.there) x.here.stands);
        same = x.here.same;
      }

  root_on_line : (i k j : ℕ) (n : EmitNode) → Next text i k true → is_over text k ≡ false
      → Here text most_nestings 0 anything k j n → RootFound i j n
  root_on_line i k j n s over x = record {
    node = x.node;
    root = root_in_a_later_line (line_ends s) (ap (is_over text) s.there ∙ over)
        (subst (λ q. BlockNode text most_nestings 0 anything q j x.node) (sym s.there) x.stands);
    same = x.same;
  }

  pub ahead_over : {e j : ℕ} {after : List ℕ} → Ahead text 0 e j after → is_over text j ≡ true
  ahead_over {j = j} a = go a.stops
    where
      go : Stops 0 a.blanks a.token → is_over text j ≡ true
      go (further_out lt) = absurd (omega (arith, lt))
      go (at_end no_blanks ends) = over_of text j a.token (token_rest a) (token_column a ∙ no_blanks) ends

  root_nothing : (ask : AskedStyle) → IsTrue (permits ask style.Plain) → (i e j : ℕ) (after : List ℕ)
      → Rest text i (10 ∷ after) → Ahead text 0 e j after → RootFound i j (emit_scalar_node None [] ask)
  root_nothing ask allowed i e j after r a =
      let s : Next text i j true = next_ahead after r (rest_place (rest_on r) a.rest) a in
      let n = no_content (end_mark text 0 (next text i)) unnamed [] in
      record {
        node = n;
        root = subst (λ q. Root text i q n) s.there (no_root (line_ends s) (ap (is_over text) s.there ∙ ahead_over a));
        same = ((_, refl, record { unanchored = refl; same_tag = refl; same_text = refl; permitted = allowed }), tt);
      }

  root_scalar_some : (tag : Option (List ℕ)) → IsTag tag → (t : List ℕ) → IsUtf8 t → (ask : AskedStyle)
      → (s : Style) → Chosen ask false t s → is_bare tag s t ≡ false → (i e j : ℕ) (after : List ℕ)
      → Rest text i (leaf_text (root_place Text) (tag_or_empty tag) (in_style 2 s t) (is_literal s) ++ after)
      → Ahead text 0 e j after → RootFound i j (emit_scalar_node tag t ask)
  root_scalar_some tag f t u ask s x some i e j after r a =
      let xs = fresh_text tag (in_style 2 s t) (is_literal s) ++ after in
      let r1 : Rest text i (32 ∷ xs) = rest_is (ap (λ l. l ++ after) (lead_text 0 2 tag f s t some)) r in
      root_in_line i j (emit_scalar_node tag t ask) xs r1 (scalar_here 2 tag f t u s x some refl value (suc i) after
      (rest_on r1) a refl)

  root_scalar : (tag : Option (List ℕ)) → IsTag tag → (t : List ℕ) → IsUtf8 t → (ask : AskedStyle)
      → (s : Style) → Chosen ask false t s → (i e j : ℕ) (after : List ℕ)
      → Rest text i (leaf_text (root_place Text) (tag_or_empty tag) (in_style 2 s t) (is_literal s) ++ after)
      → Ahead text 0 e j after → RootFound i j (emit_scalar_node tag t ask)
  root_scalar _ no_tag [] u ask _ (is_plain fits key allowed) i e j after r a = root_nothing ask allowed i e j after r a
  root_scalar _ no_tag (y ∷ ys) u ask _ (is_plain fits key allowed) i e j after r a =
      root_scalar_some None no_tag (y ∷ ys) u ask Plain (is_plain fits key allowed) refl i e j after r a
  root_scalar _ no_tag t u ask _ (is_single fits allowed) i e j after r a =
      root_scalar_some None no_tag t u ask SingleQuoted (is_single fits allowed) refl i e j after r a
  root_scalar _ no_tag t u ask _ (is_double allowed) i e j after r a =
      root_scalar_some None no_tag t u ask DoubleQuoted (is_double allowed) refl i e j after r a
  root_scalar _ no_tag t u ask _ (is_block key fits allowed) i e j after r a =
      root_scalar_some None no_tag t u ask Literal (is_block key fits allowed) refl i e j after r a
  root_scalar _ (a_tag {c = y} {cs = ys} v z) t u ask s x i e j after r a =
      root_scalar_some (Some (y ∷ ys)) (a_tag v z) t u ask s x refl i e j after r a

  empty_text : (tag : Option (List ℕ)) → IsTag tag → (x : ℕ) (xs : List ℕ)
      → leaf_text (root_place Text) (tag_or_empty tag) (x ∷ xs) false ≡ 32 ∷ fresh_text tag (x ∷ xs) false
  empty_text _ (a_tag u z) x xs = refl
  empty_text _ no_tag x xs = refl

  pub root_later : {d : ℕ} {n : EmitNode} {key : Bool} → IsPrintable d key n → key ≡ false → d ≡ most_nestings
      → (i e j : ℕ) (after : List ℕ) → Rest text i (node_text (root_place Text) n ++ after)
      → Ahead text 0 e j after → RootFound i j n
  root_later (a_scalar {tag = tag} {text = t} {style = ask} f u may) no_key most i e j after r a =
      root_scalar tag f t u ask (chosen_style t ask false) (chosen ask false t
      (ap (λ b. may_ask ask b t) (sym no_key) ∙ may))
      i e j after r a
  root_later (a_sequence {d = d} {tag = tag} f no_items) no_key most i e j after r a =
      let xs = fresh_text tag (91 ∷ 93 ∷ []) false ++ after in
      let r1 : Rest text i (32 ∷ xs) = rest_is (ap (λ l. l ++ after) (empty_text tag f 91 (93 ∷ []))) r in
      root_in_line i j (emit_sequence_node tag no_emit_nodes) xs r1
      (subst (λ m. HereAt text m 0 value (suc i) j (emit_sequence_node tag no_emit_nodes) xs) most
      (content_here tag f 91 (93 ∷ []) false value (suc i) after (rest_on r1) (quote_word 91 refl) (λ ys. refl)
      (λ k q. items_complete a q)))
  root_later (a_sequence {d = d} no_tag (an_item {n = n} {ns = ns} g gs)) no_key most i e j after r a =
      let k = suc i + 0 in
      let r1 : Rest text k (items_line 0 n ns ++ after) = rest_at_line text i 0 (items_line 0 n ns ++ after) r in
      let col = line_column' text i 0 (items_line 0 n ns ++ after) r in
      let x = items_stand text d 0 n ns (node_behind text g refl anything 0) (items_behind text gs 0) k e j after r1 col
      (deeper (omega arith) a) (no_item 0 (omega arith) a) in
      let h = sequence_here text d 0 k j 0 anything (emit_node n ns) refl (dash_mark text 0 n ns k after r1) col x in
      root_on_line i k j (emit_sequence_node None (emit_node n ns)) (next_line 0 (items_line 0 n ns ++ after) r refl)
      (token_over k (items_line 0 n ns ++ after) (items_token 0 n ns after) r1)
      (subst (λ m. Here text m 0 anything k j (emit_sequence_node None (emit_node n ns))) most h)
  root_later (a_sequence {d = d} (a_tag {c = t} {cs = ts} u z) (an_item {n = n} {ns = ns} g gs)) no_key most i e j
      after r a =
      let node' = emit_sequence_node (Some (t ∷ ts)) (emit_node n ns) in
      let xs = (printed_tag (t ∷ ts) ++ ((10 ∷ replicate 0 32) ++ items_line 0 n ns)) ++ after in
      root_in_line i j node' xs r
      (subst (λ m. HereAt text m 0 value (suc i) j node' xs) most
      (tagged_items text d 0 n ns (λ q. node_behind text g refl anything q) (λ q. items_behind text gs q) 0 0 value t ts
      (a_tag u z) (suc i) e j after (rest_on r) (λ k c over item. rw (within_is text 0 0 k (omega arith) c over) refl)
      (deeper (omega arith) a) (no_item 0 (omega arith) a)))
  root_later (a_mapping {d = d} {tag = tag} f no_pairs) no_key most i e j after r a =
      let xs = fresh_text tag (123 ∷ 125 ∷ []) false ++ after in
      let r1 : Rest text i (32 ∷ xs) = rest_is (ap (λ l. l ++ after) (empty_text tag f 123 (125 ∷ []))) r in
      root_in_line i j (emit_mapping_node tag no_emit_pairs) xs r1
      (subst (λ m. HereAt text m 0 value (suc i) j (emit_mapping_node tag no_emit_pairs) xs) most
      (content_here tag f 123 (125 ∷ []) false value (suc i) after (rest_on r1) (quote_word 123 refl) (λ ys. refl)
      (λ k q. pairs_complete a q)))
  root_later (a_mapping {d = d} no_tag (a_pair {k = k} {v = v} {ps = ps} g h hs)) no_key most i e j after r a =
      let one = entry_by text d 0 k v (is_simple_key k) (λ s. key_is text d 0 k g s) (λ s. node_behind text g s part 0)
      (λ room. node_behind text h refl room 0) in
      let m = suc i + 0 in
      let rest = pairs_line 0 k v ps ++ after in
      let r1 : Rest text m rest = rest_at_line text i 0 rest r in
      let col = line_column' text i 0 rest r in
      let b = line_begins ps after one in
      let x = pairs_stand text d 0 k v ps one (pairs_behind text hs 0) m e j after r1 col (deeper (omega arith) a)
      (no_part 0 (omega arith) a) (no_item 0 (omega arith) a) in
      let found = mapping_here text d 0 m j 0 anything (emit_pair k v ps) refl (no_over b r1) col x in
      root_on_line i m j (emit_mapping_node None (emit_pair k v ps)) (next_line 0 rest r b.token) (no_over b r1)
      (subst (λ p. Here text p 0 anything m j (emit_mapping_node None (emit_pair k v ps))) most found)
  root_later (a_mapping {d = d} (a_tag {c = t} {cs = ts} u z) (a_pair {k = k} {v = v} {ps = ps} g h hs)) no_key most
      i e j after r a =
      let node' = emit_mapping_node (Some (t ∷ ts)) (emit_pair k v ps) in
      let xs = (printed_tag (t ∷ ts) ++ ((10 ∷ replicate 0 32) ++ pairs_line 0 k v ps)) ++ after in
      root_in_line i j node' xs r
      (subst (λ m. HereAt text m 0 value (suc i) j node' xs) most
      (tagged_pairs text d 0 k v ps
      (λ q. entry_by text d q k v (is_simple_key k) (λ s. key_is text d q k g s) (λ s. node_behind text g s part q)
      (λ room. node_behind text h refl room q)) (λ q. pairs_behind text hs q) 0 0 (omega arith) value t ts
      (a_tag u z) (suc i) e j after (rest_on r) (deeper (omega arith) a) (no_part 0 (omega arith) a)
      (no_item 0 (omega arith) a)))

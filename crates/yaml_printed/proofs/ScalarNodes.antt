-- Scalars and empty collections behind an indicator.
use Rattle.std.proofs.Common.{◌≡◌, ℕ, suc, ◌+◌, ◌-◌, Bool, true, false, refl, sym}
use Rattle.std.proofs.Common.{subst, ap, ◌∙◌, arith, List, [], ◌∷◌, ◌++◌, Option, None, Some, max}
use Rattle.std.proofs.lemmas.Bool.{false≢true, lt-ltb}
use Rattle.std.specs.Prelude.{IsTrue}
use Rattle.std.specs.Str.{IsUtf8}
use Rattle.yaml_base.specs.Renders.{permits}
use Rattle.yaml_base.specs.declared.event.ScalarStyle.TheVariants as style
use Rattle.yaml_base.specs.EmitTree.{EmitNode, emit_scalar_node, emit_sequence_node, emit_mapping_node}
use Rattle.yaml_base.specs.EmitTree.{no_emit_nodes, no_emit_pairs}
use Rattle.yaml_base.specs.declared.emitter.AskedStyle.{AskedStyle}
use Rattle.yaml_emit.specs.Places.{value_place}
use Rattle.yaml_emit.specs.Scalars.{in_style}
use Rattle.yaml_emit.specs.StreamTexts.{is_literal, leaf_text, node_text, tag_or_empty}
use Rattle.yaml_emit.specs.Styles.{chosen_style}
use Rattle.yaml_emit.specs.declared.style.Style.{Style}
use Rattle.yaml_emit.specs.declared.style.Style.TheVariants.{Plain, SingleQuoted, DoubleQuoted, Literal}
use Rattle.yaml_grammar.specs.Blocks.{Room, anything, part, value, Behind, is_of_mapping, is_own, nothing}
use Rattle.yaml_grammar.specs.Brackets.{nothing_here}
use Rattle.yaml_grammar.specs.Gaps.{is_item, is_within}
use Rattle.yaml_printed.specs.Printable.{IsTag, no_tag, a_tag, may_ask}
use Rattle.yaml_printed.proofs.Aheads.{Ahead, gone, next_ahead}
use Rattle.yaml_printed.proofs.ChosenStyles.{Chosen, chosen, is_plain, is_single, is_double, is_block}
use Rattle.yaml_printed.proofs.Collections.{behind_space}
use Rattle.yaml_printed.proofs.Contents.{items_complete, pairs_complete}
use Rattle.yaml_printed.proofs.Finds.{BehindIs, Found}
use Rattle.yaml_printed.proofs.Finds.{place_in}
use Rattle.yaml_printed.proofs.Inline.{HereAt, token_inside, content_here, fresh_text}
use Rattle.yaml_printed.proofs.Rests.{Rest, rest_is, rest_on, rest_place}
use Rattle.yaml_printed.proofs.Rests.{line_ends, Next}
use Rattle.yaml_printed.proofs.ScalarLines.{is_bare, scalar_here}
use Rattle.yaml_printed.proofs.PlainFits.{quote_word}

-- a room in a mapping has no own sequence that goes on there
pub no_own : (text : List ℕ) (room : Room) (c j : ℕ) → (is_of_mapping room ≡ true → is_item text c j ≡ false)
    → is_own text room (suc c) j ≡ false
no_own text anything c j h = refl
no_own text part c j h =
    let same : suc c - 1 ≡ c = omega arith in
    rw (lt-ltb 0 (suc c) (omega arith)) (ap (λ q. is_item text q j) same ∙ h refl)
no_own text value c j h =
    let same : suc c - 1 ≡ c = omega arith in
    rw (lt-ltb 0 (suc c) (omega arith)) (ap (λ q. is_item text q j) same ∙ h refl)

pub an_own : (text : List ℕ) (room : Room) (c j : ℕ) → is_of_mapping room ≡ true → is_item text c j ≡ true
    → is_own text room (suc c) j ≡ true
an_own text room c j of h =
    let same : suc c - 1 ≡ c = omega arith in
    rw (of, lt-ltb 0 (suc c) (omega arith)) (ap (λ q. is_item text q j) same ∙ h)

-- the parts of the text of a node behind an indicator do not hang on its room
leaf_in : (room : Room) (c : ℕ) (tag content : List ℕ) (is_block : Bool)
    → leaf_text (place_in room c) tag content is_block ≡ leaf_text (value_place c) tag content is_block
leaf_in anything c (t ∷ ts) content b = refl
leaf_in anything c [] [] b = refl
leaf_in anything c [] (x ∷ xs) b = refl
leaf_in part c (t ∷ ts) content b = refl
leaf_in part c [] [] b = refl
leaf_in part c [] (x ∷ xs) b = refl
leaf_in value c tag content b = refl

two_more : (c : ℕ) → max (c + 2) 2 ≡ suc c - 1 + 2
two_more c = omega arith

scalar_in : (room : Room) (c : ℕ) (tag : Option (List ℕ)) (t : List ℕ) (ask : AskedStyle)
    → node_text (place_in room c) (emit_scalar_node tag t ask)
    ≡ leaf_text (value_place c) (tag_or_empty tag) (in_style (max (c + 2) 2) (chosen_style t ask false) t)
    (is_literal (chosen_style t ask false))
scalar_in anything c tag t ask =
    leaf_in anything c (tag_or_empty tag) (in_style (max (c + 2) 2) (chosen_style t ask false) t)
    (is_literal (chosen_style t ask false))
scalar_in part c tag t ask =
    leaf_in part c (tag_or_empty tag) (in_style (max (c + 2) 2) (chosen_style t ask false) t)
    (is_literal (chosen_style t ask false))
scalar_in value c tag t ask = refl

-- behind a space a line might begin with it
pub lead_text : (c indent : ℕ) (tag : Option (List ℕ)) → IsTag tag → (s : Style) (t : List ℕ) → is_bare tag s t ≡ false
    → leaf_text (value_place c) (tag_or_empty tag) (in_style indent s t) (is_literal s)
    ≡ 32 ∷ fresh_text tag (in_style indent s t) (is_literal s)
lead_text c indent _ (a_tag u z) s t some = refl
lead_text c indent _ no_tag Plain [] some = absurd (false≢true (sym some))
lead_text c indent _ no_tag Plain (x ∷ xs) some = refl
lead_text c indent _ no_tag SingleQuoted t some = refl
lead_text c indent _ no_tag DoubleQuoted t some = refl
lead_text c indent _ no_tag Literal t some = refl

content_text : (c : ℕ) (tag : Option (List ℕ)) → IsTag tag → (x : ℕ) (xs : List ℕ)
    → leaf_text (value_place c) (tag_or_empty tag) (x ∷ xs) false ≡ 32 ∷ fresh_text tag (x ∷ xs) false
content_text c _ (a_tag u z) x xs = refl
content_text c _ no_tag x xs = refl

module _ (text : List ℕ) where
  -- ---- scalars and empty collections

  nothing_found : (d c : ℕ) (room : Room) (ask : AskedStyle) → IsTrue (permits ask style.Plain)
      → (i e j : ℕ) (after : List ℕ)
      → Rest text i (10 ∷ after) → Ahead text (suc c) e j after → is_own text room (suc c) j ≡ false
      → Found text d c room i j (emit_scalar_node None [] ask)
  nothing_found d c room ask allowed i e j after r a own =
      let s : Next text i j true = next_ahead after r (rest_place (rest_on r) a.rest) a in
      record {
        node = nothing_here text i;
        behind = subst (λ q. Behind text d c room i q (nothing_here text i)) s.there
            (nothing (line_ends s) (ap (is_within text (suc c)) s.there ∙ gone a)
            (ap (is_own text room (suc c)) s.there ∙ own));
        same = ((_, refl, record { unanchored = refl; same_tag = refl; same_text = refl; permitted = allowed }), tt);
      }

  pub here_found : (d c : ℕ) (room : Room) (i j : ℕ) (n : EmitNode) (xs : List ℕ) → Rest text i (32 ∷ xs)
      → HereAt text d (suc c) room (suc i) j n xs → Found text d c room i j n
  here_found d c room i j n xs r x =
      behind_space text d c room i j n xs r x.token.token (token_inside x.token (rest_on r)) x.here

  some_found : (d c : ℕ) (room : Room) (tag : Option (List ℕ)) → IsTag tag → (t : List ℕ) → IsUtf8 t
      → (ask : AskedStyle)
      → (s : Style) → Chosen ask false t s → is_bare tag s t ≡ false → (i e j : ℕ) (after : List ℕ)
      → Rest text i (leaf_text (value_place c) (tag_or_empty tag) (in_style (max (c + 2) 2) s t) (is_literal s)
      ++ after)
      → Ahead text (suc c) e j after → is_own text room (suc c) j ≡ false
      → Found text d c room i j (emit_scalar_node tag t ask)
  some_found d c room tag f t u ask s x some i e j after r a own =
      let indent = max (c + 2) 2 in
      let xs = fresh_text tag (in_style indent s t) (is_literal s) ++ after in
      let r1 : Rest text i (32 ∷ xs) = rest_is (ap (λ l. l ++ after) (lead_text c indent tag f s t some)) r in
      here_found d c room i j (emit_scalar_node tag t ask) xs r1
      (scalar_here indent tag f t u s x some (two_more c) room (suc i) after (rest_on r1) a own)

  scalar_by : (d c : ℕ) (room : Room) (tag : Option (List ℕ)) → IsTag tag → (t : List ℕ) → IsUtf8 t → (ask : AskedStyle)
      → (s : Style) → Chosen ask false t s → (i e j : ℕ) (after : List ℕ)
      → Rest text i (leaf_text (value_place c) (tag_or_empty tag) (in_style (max (c + 2) 2) s t) (is_literal s)
      ++ after)
      → Ahead text (suc c) e j after → is_own text room (suc c) j ≡ false
      → Found text d c room i j (emit_scalar_node tag t ask)
  scalar_by d c room _ no_tag [] u ask _ (is_plain fits key allowed) i e j after r a own =
      nothing_found d c room ask allowed i e j after r a own
  scalar_by d c room _ no_tag (y ∷ ys) u ask _ (is_plain fits key allowed) i e j after r a own =
      some_found d c room None no_tag (y ∷ ys) u ask Plain (is_plain fits key allowed) refl i e j after r a own
  scalar_by d c room _ no_tag t u ask _ (is_single fits allowed) i e j after r a own =
      some_found d c room None no_tag t u ask SingleQuoted (is_single fits allowed) refl i e j after r a own
  scalar_by d c room _ no_tag t u ask _ (is_double allowed) i e j after r a own =
      some_found d c room None no_tag t u ask DoubleQuoted (is_double allowed) refl i e j after r a own
  scalar_by d c room _ no_tag t u ask _ (is_block key fits allowed) i e j after r a own =
      some_found d c room None no_tag t u ask Literal (is_block key fits allowed) refl i e j after r a own
  scalar_by d c room _ (a_tag {c = y} {cs = ys} v z) t u ask s x i e j after r a own =
      some_found d c room (Some (y ∷ ys)) (a_tag v z) t u ask s x refl i e j after r a own

  pub scalar_found : (d c : ℕ) (room : Room) (tag : Option (List ℕ)) → IsTag tag → (t : List ℕ) → IsUtf8 t
      → (ask : AskedStyle)
      → may_ask ask false t ≡ true → BehindIs text d c room (emit_scalar_node tag t ask)
  scalar_found d c room tag f t u ask may i e j after r col a own =
      scalar_by d c room tag f t u ask (chosen_style t ask false) (chosen ask false t may) i e j after
      (rest_is (ap (λ l. l ++ after) (scalar_in room c tag t ask)) r) a (no_own text room c j own)

  items_in : (room : Room) (c : ℕ) (tag : Option (List ℕ))
      → node_text (place_in room c) (emit_sequence_node tag no_emit_nodes)
      ≡ leaf_text (value_place c) (tag_or_empty tag) (91 ∷ 93 ∷ []) false
  items_in anything c tag = leaf_in anything c (tag_or_empty tag) (91 ∷ 93 ∷ []) false
  items_in part c tag = leaf_in part c (tag_or_empty tag) (91 ∷ 93 ∷ []) false
  items_in value c tag = refl

  pairs_in : (room : Room) (c : ℕ) (tag : Option (List ℕ))
      → node_text (place_in room c) (emit_mapping_node tag no_emit_pairs)
      ≡ leaf_text (value_place c) (tag_or_empty tag) (123 ∷ 125 ∷ []) false
  pairs_in anything c tag = leaf_in anything c (tag_or_empty tag) (123 ∷ 125 ∷ []) false
  pairs_in part c tag = leaf_in part c (tag_or_empty tag) (123 ∷ 125 ∷ []) false
  pairs_in value c tag = refl

  pub no_items_found : (d c : ℕ) (room : Room) (tag : Option (List ℕ)) → IsTag tag
      → BehindIs text (suc d) c room (emit_sequence_node tag no_emit_nodes)
  no_items_found d c room tag f i e j after r col a own =
      let r1 : Rest text i (32 ∷ (fresh_text tag (91 ∷ 93 ∷ []) false ++ after))
      = rest_is (ap (λ l. l ++ after) (items_in room c tag ∙ content_text c tag f 91 (93 ∷ []))) r in
      here_found (suc d) c room i j (emit_sequence_node tag no_emit_nodes)
      (fresh_text tag (91 ∷ 93 ∷ []) false ++ after) r1
      (content_here tag f 91 (93 ∷ []) false room (suc i) after (rest_on r1) (quote_word 91 refl) (λ ys. refl)
      (λ k q. items_complete a q))

  pub no_pairs_found : (d c : ℕ) (room : Room) (tag : Option (List ℕ)) → IsTag tag
      → BehindIs text (suc d) c room (emit_mapping_node tag no_emit_pairs)
  no_pairs_found d c room tag f i e j after r col a own =
      let r1 : Rest text i (32 ∷ (fresh_text tag (123 ∷ 125 ∷ []) false ++ after))
      = rest_is (ap (λ l. l ++ after) (pairs_in room c tag ∙ content_text c tag f 123 (125 ∷ []))) r in
      here_found (suc d) c room i j (emit_mapping_node tag no_emit_pairs)
      (fresh_text tag (123 ∷ 125 ∷ []) false ++ after) r1
      (content_here tag f 123 (125 ∷ []) false room (suc i) after (rest_on r1) (quote_word 123 refl) (λ ys. refl)
      (λ k q. pairs_complete a q))

-- A printed stream is a text of the grammar's characters.
use Rattle.std.proofs.Common.{◌≡◌, ℕ, ◌-◌, ◌<◌, Bool, true, false, not, ◌==◌, ◌&&◌, ◌||◌, refl, sym}
use Rattle.std.proofs.Common.{ap, ◌∙◌, arith, List, [], ◌∷◌, ◌++◌, length, Option, max, inl, inr, take}
use Rattle.std.proofs.lemmas.Bool.{and_parts}
use Rattle.std.proofs.lemmas.Str.{scalars-chars}
use Rattle.std.specs.List.{flat_map, list_all}
use Rattle.std.specs.Prelude.{if◌then◌else◌}
use Rattle.std.specs.Str.{IsUtf8, chars}
use lib.Utf8.{encode, scalar, scalars, scalar_cases}
use Rattle.yaml_base.specs.EmitTree.{EmitNode}
use Rattle.yaml_base.specs.EmitTree.{EmitNodes, emit_node, EmitPairs, emit_pair}
use Rattle.yaml_base.specs.declared.emitter.AskedStyle.{AskedStyle}
use Rattle.yaml_emit.specs.Characters.{is_line_text, is_printable}
use Rattle.yaml_emit.specs.Places.{behind_tag, blank, far_place, in_line, item_place, key_place, margin, root_place}
use Rattle.yaml_emit.specs.Places.{tag_in_line}
use Rattle.yaml_emit.specs.Places.{value_place}
use Rattle.yaml_emit.specs.PrintedTexts.{blanks_if, block_rest, literal}
use Rattle.yaml_emit.specs.PrintedTexts.{quote_doubled, single_rest}
use Rattle.yaml_emit.specs.Scalars.{in_style}
use Rattle.yaml_emit.specs.StreamTexts.{is_literal, is_simple_key, items_column, items_text, later_document, leaf_end}
use Rattle.yaml_emit.specs.StreamTexts.{leaf_text}
use Rattle.yaml_emit.specs.StreamTexts.{node_text, pairs_text, stream_text, tag_or_empty}
use Rattle.yaml_emit.specs.Styles.{begins_otherwise, chosen_style, ends_with_byte}
use Rattle.yaml_emit.specs.Styles.{is_first, stand_side_by_side}
use Rattle.yaml_emit.specs.declared.open.Lead.{Lead}
use Rattle.yaml_emit.specs.declared.open.Lead.TheVariants.{Fresh, Indicator, Text}
use Rattle.yaml_emit.specs.declared.open.Place.{Place}
use Rattle.yaml_emit.specs.declared.style.Style.{Style}
use Rattle.yaml_grammar.specs.Bytes.{is_character, is_text}
use Rattle.yaml_printed.specs.Printable.{IsPrintable, ArePrintable, PairsPrintable, RootsPrintable, IsTag, no_tag}
use Rattle.yaml_printed.specs.Printable.{a_tag, may_ask}
use Rattle.yaml_printed.specs.Printable.{a_scalar, a_sequence, a_mapping, no_items, an_item, no_pairs, a_pair, no_roots}
use Rattle.yaml_printed.specs.Printable.{a_root}
use Rattle.yaml_printed.proofs.ChosenStyles.{Chosen, chosen, is_block, is_double, is_plain, is_single}
use Rattle.yaml_printed.proofs.Escapes.{double_short}
use Rattle.yaml_printed.proofs.Spelling.{Spells, spells_append, spells_byte, spells_is_text, spells_more, spells_none}
use Rattle.yaml_printed.proofs.Spelling.{spells_one}
use Rattle.yaml_printed.proofs.Spelling.{spells_spaces, spells_text, spells_wider}
use Rattle.yaml_printed.proofs.TagBytes.{tag_short}
use Rattle.yaml_printed.proofs.TreeEnds.{pair_text}
use Rattle.yaml_printed.proofs.Words.{or_yes}

-- bytes that are UTF-8 of printable characters and line feeds
abbrev Lines : List ℕ → Type 0
Lines xs = Spells is_line_text xs

line_of : (c : ℕ) → scalar c ≡ true → is_printable c ≡ true → is_line_text c ≡ true
line_of c s h = rw h (or_yes (c == 10))

lines_blanks : (b : Bool) (n : ℕ) → Lines (blanks_if b n)
lines_blanks true n = spells_spaces n refl
lines_blanks false n = spells_none

lines_if : (b : Bool) (xs ys : List ℕ) → Lines xs → Lines ys → Lines (if b then xs else ys)
lines_if true xs ys s t = s
lines_if false xs ys s t = t

-- ---- scalars

single_lines : (indent : ℕ) (b : Bool) (cs : List ℕ) → scalars cs ≡ true → list_all is_line_text cs ≡ true
    → Lines (single_rest indent b cs)
single_lines indent b [] s h = lines_blanks b indent
single_lines indent b (c ∷ cs) s h =
    let p = and_parts (scalar c) (scalars cs) s in
    let q = and_parts (is_line_text c) (list_all is_line_text cs) h in
    spells_append
    (lines_if (c == 10) (if b then 10 ∷ [] else 10 ∷ 10 ∷ []) (blanks_if b indent ++ quote_doubled c)
    (lines_if b (10 ∷ []) (10 ∷ 10 ∷ []) (spells_byte 10 (omega arith) refl)
    (spells_more 10 (omega arith) refl (spells_byte 10 (omega arith) refl)))
    (spells_append (lines_blanks b indent) (lines_if (c == 39) (39 ∷ 39 ∷ []) (encode c)
    (spells_more 39 (omega arith) refl (spells_byte 39 (omega arith) refl)) (spells_one c p.0 q.0))))
    (single_lines indent (c == 10) cs p.1 q.1)

block_lines : (indent : ℕ) (b : Bool) (cs : List ℕ) → scalars cs ≡ true → list_all is_line_text cs ≡ true
    → Lines (block_rest indent b cs)
block_lines indent b [] s h = lines_if b [] (10 ∷ []) spells_none (spells_byte 10 (omega arith) refl)
block_lines indent b (c ∷ cs) s h =
    let p = and_parts (scalar c) (scalars cs) s in
    let q = and_parts (is_line_text c) (list_all is_line_text cs) h in
    spells_append (spells_append (lines_blanks (b && not (c == 10)) indent) (spells_one c p.0 q.0))
    (block_lines indent (c == 10) cs p.1 q.1)

literal_lines : (indent : ℕ) (t : List ℕ) → IsUtf8 t → list_all is_line_text (chars t) ≡ true → Lines (literal indent t)
literal_lines indent t u h =
    spells_more 124 (omega arith) refl (spells_append
    (lines_if (is_first 32 t || is_first 10 t) (50 ∷ []) [] (spells_byte 50 (omega arith) refl) spells_none)
    (spells_append
    (lines_if (not (ends_with_byte 10 t)) (45 ∷ []) _ (spells_byte 45 (omega arith) refl)
    (lines_if (length t == 1 || ends_with_byte 10 (take (length t - 1) t)) (43 ∷ []) []
    (spells_byte 43 (omega arith) refl)
    spells_none))
    (spells_more 10 (omega arith) refl (block_lines indent true (chars t) (scalars-chars t u) h))))

content_lines : {ask : AskedStyle} {key : Bool} {t : List ℕ} (indent : ℕ) (s : Style) → IsUtf8 t → Chosen ask key t s
    → Lines (in_style indent s t)
content_lines {t = t} indent _ u (is_plain fits key allowed) =
    spells_wider line_of (spells_text t u (and_parts (not (begins_otherwise t) && not (is_first 32 t) && not
    (ends_with_byte 32 t)
    && not (ends_with_byte 58 t) && not (stand_side_by_side 58 32 t) && not (stand_side_by_side 32 35 t))
    (list_all is_printable (chars t)) fits).1)
content_lines {t = t} indent _ u (is_single fits allowed) =
    spells_more 39 (omega arith) refl (spells_append (single_lines indent false (chars t) (scalars-chars t u)
    (and_parts (not (stand_side_by_side 32 10 t) && not (stand_side_by_side 10 32 t))
    (list_all is_line_text (chars t)) fits).1)
    (spells_byte 39 (omega arith) refl))
content_lines {t = t} indent _ u (is_double allowed) = spells_wider line_of (double_short t u).spells
content_lines {t = t} indent _ u (is_block key fits allowed) =
    literal_lines indent t u (and_parts (not (length t == 0) && not (ends_with_byte 32 t) && not
    (stand_side_by_side 32 10 t))
    (list_all is_line_text (chars t)) fits).1

-- ---- nodes

blank_lines : (lead : Lead) → Lines (blank lead)
blank_lines Fresh = spells_none
blank_lines Indicator = spells_byte 32 (omega arith) refl
blank_lines Text = spells_byte 32 (omega arith) refl

margin_lines : (lead : Lead) (n : ℕ) → Lines (margin lead n)
margin_lines Fresh n = spells_spaces n refl
margin_lines Indicator n = spells_byte 32 (omega arith) refl
margin_lines Text n = spells_more 10 (omega arith) refl (spells_spaces n refl)

tag_lines : (lead : Lead) (tag : Option (List ℕ)) → IsTag tag → Lines (tag_in_line lead (tag_or_empty tag))
tag_lines lead _ no_tag = spells_none
tag_lines lead _ (a_tag {c = c} {cs = cs} u z) =
    spells_append (blank_lines lead) (spells_wider line_of (tag_short (c ∷ cs) (a_tag u z)).spells)

in_line_lines : (lead : Lead) (xs : List ℕ) → Lines xs → Lines (in_line lead xs)
in_line_lines lead [] s = s
in_line_lines lead (x ∷ xs) s = spells_append (blank_lines lead) s

end_lines : (key is_block : Bool) → Lines (leaf_end key is_block)
end_lines true b = spells_byte 58 (omega arith) refl
end_lines false true = spells_none
end_lines false false = spells_byte 10 (omega arith) refl

leaf_lines : (place : Place) (tag : Option (List ℕ)) (content : List ℕ) (is_block : Bool) → IsTag tag → Lines content
    → Lines (leaf_text place (tag_or_empty tag) content is_block)
leaf_lines place tag content b f s =
    spells_append (tag_lines place.lead tag f)
    (spells_append (in_line_lines (behind_tag place.lead (tag_or_empty tag)) content s) (end_lines place.key b))

empty_lines : (a b : ℕ) → a < 128 → b < 128 → is_line_text a ≡ true → is_line_text b ≡ true → Lines (a ∷ b ∷ [])
empty_lines a b la lb ha hb = spells_more a la ha (spells_byte b lb hb)

items_lines : (lead : Lead) (c : ℕ) (n : EmitNode) (ns : EmitNodes) → Lines (node_text (item_place c) n)
    → Lines (items_text Fresh c ns) → Lines (items_text lead c (emit_node n ns))
items_lines lead c n ns one more =
    spells_append (margin_lines lead c) (spells_more 45 (omega arith) refl (spells_append one more))

pair_lines : (c : ℕ) (k v : EmitNode) (simple : Bool) → (simple ≡ true → Lines (node_text (key_place c) k))
    → (simple ≡ false → Lines (node_text (far_place c) k)) → Lines (node_text (value_place c) v)
    → Lines (node_text (far_place c) v) → Lines (pair_text c k v simple)
pair_lines c k v true key far one two = spells_append (key refl) one
pair_lines c k v false key far one two =
    spells_more 63 (omega arith) refl (spells_append (far refl) (spells_append (margin_lines Fresh c)
    (spells_more 58 (omega arith) refl two)))

pairs_lines : (lead : Lead) (c : ℕ) (k v : EmitNode) (ps : EmitPairs) → Lines (pair_text c k v (is_simple_key k))
    → Lines (pairs_text Fresh c ps) → Lines (pairs_text lead c (emit_pair k v ps))
pairs_lines lead c k v ps one more = spells_append (margin_lines lead c) (spells_append one more)

mutual
  node_lines : {d : ℕ} {key : Bool} {n : EmitNode} → IsPrintable d key n → (place : Place) → key ≡ place.key
      → Lines (node_text place n)
  node_lines (a_scalar {tag = tag} {text = t} {style = ask} f u may) place e =
      leaf_lines place tag (in_style (max place.column 2) (chosen_style t ask place.key) t)
      (is_literal (chosen_style t ask place.key)) f
      (content_lines (max place.column 2) (chosen_style t ask place.key) u
      (chosen ask place.key t (ap (λ b. may_ask ask b t) (sym e) ∙ may)))
  node_lines (a_sequence {tag = tag} f no_items) place e =
      leaf_lines place tag (91 ∷ 93 ∷ []) false f (empty_lines 91 93 (omega arith) (omega arith) refl refl)
  node_lines (a_sequence {tag = tag} f (an_item {n = n} {ns = ns} g gs)) place e =
      let lead = behind_tag place.lead (tag_or_empty tag) in
      let q = items_column place lead in
      spells_append (tag_lines place.lead tag f)
      (items_lines lead q n ns (node_lines g (item_place q) refl) (more_items_lines gs q))
  node_lines (a_mapping {tag = tag} f no_pairs) place e =
      leaf_lines place tag (123 ∷ 125 ∷ []) false f (empty_lines 123 125 (omega arith) (omega arith) refl refl)
  node_lines (a_mapping {tag = tag} f (a_pair {k = k} {v = v} {ps = ps} g h hs)) place e =
      let c = place.column in
      spells_append (tag_lines place.lead tag f)
      (pairs_lines (behind_tag place.lead (tag_or_empty tag)) c k v ps
      (pair_lines c k v (is_simple_key k) (λ s. node_lines g (key_place c) s) (λ s. node_lines g (far_place c) s)
      (node_lines h (value_place c) refl) (node_lines h (far_place c) refl)) (more_pairs_lines hs c))

  more_items_lines : {d : ℕ} {ns : EmitNodes} → ArePrintable d ns → (c : ℕ) → Lines (items_text Fresh c ns)
  more_items_lines no_items c = spells_none
  more_items_lines (an_item {n = n} {ns = ns} g gs) c =
      items_lines Fresh c n ns (node_lines g (item_place c) refl) (more_items_lines gs c)

  more_pairs_lines : {d : ℕ} {ps : EmitPairs} → PairsPrintable d ps → (c : ℕ) → Lines (pairs_text Fresh c ps)
  more_pairs_lines no_pairs c = spells_none
  more_pairs_lines (a_pair {k = k} {v = v} {ps = ps} g h hs) c =
      pairs_lines Fresh c k v ps
      (pair_lines c k v (is_simple_key k) (λ s. node_lines g (key_place c) s) (λ s. node_lines g (far_place c) s)
      (node_lines h (value_place c) refl) (node_lines h (far_place c) refl)) (more_pairs_lines hs c)

later_lines : (roots : List EmitNode) → RootsPrintable roots → Lines (flat_map later_document roots)
later_lines [] no_roots = spells_none
later_lines (root ∷ roots) (a_root f fs) =
    spells_append (spells_more 45 (omega arith) refl (spells_more 45 (omega arith) refl
    (spells_more 45 (omega arith) refl
    (node_lines f (root_place Text) refl)))) (later_lines roots fs)

stream_lines : (roots : List EmitNode) → RootsPrintable roots → Lines (stream_text roots)
stream_lines [] no_roots = spells_none
stream_lines (root ∷ roots) (a_root f fs) = spells_append (node_lines f (root_place Fresh) refl) (later_lines roots fs)

line_character : (c : ℕ) → scalar c ≡ true → is_line_text c ≡ true → is_character c ≡ true
line_character c s h = elim (scalar_cases c s) [ inl low ↦ grind (arith, low, h) | inr high ↦ grind (arith, high, h) ]

pub stream_is_text : (roots : List EmitNode) → RootsPrintable roots → is_text (stream_text roots) ≡ true
stream_is_text roots f = spells_is_text (spells_wider line_character (stream_lines roots f))

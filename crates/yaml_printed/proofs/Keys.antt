-- A key in a line where it is printed.
use Rattle.std.proofs.Common.{◌≡◌, ℕ, suc, ◌+◌, ◌<◌, ◌*◌, ◌≤◌, Bool, true, false, not, ◌==◌, ◌&&◌, ◌||◌, refl, sym}
use Rattle.std.proofs.Common.{subst, ap, ◌∙◌, arith, List, [], ◌∷◌, ◌++◌, length, Option}
use Rattle.std.proofs.Common.{max}
use Rattle.std.proofs.lemmas.Bool.{and_parts, false≢true, leb-true, ne_eqb}
use Rattle.std.specs.List.{flat_map, list_all, list_any}
use Rattle.std.specs.Str.{IsUtf8, chars}
use Rattle.yaml_base.specs.EmitTree.{EmitNode, emit_scalar_node, emit_sequence_node, emit_mapping_node}
use Rattle.yaml_base.specs.EmitTree.{no_emit_nodes, no_emit_pairs}
use Rattle.yaml_base.specs.declared.emitter.AskedStyle.{AskedStyle}
use Rattle.yaml_base.specs.declared.event.ScalarStyle.TheVariants as style
use Rattle.yaml_emit.specs.Characters.{is_break, is_line_text}
use Rattle.yaml_emit.specs.PrintedTexts.{escaped_character, single_rest}
use Rattle.yaml_emit.specs.Scalars.{in_style}
use Rattle.yaml_emit.specs.StreamTexts.{is_short, is_simple_key, tag_or_empty}
use Rattle.yaml_emit.specs.Styles.{chosen_style, fits_single_quotes, has_break, is_dash, is_first}
use Rattle.yaml_emit.specs.Styles.{stand_side_by_side}
use Rattle.yaml_emit.specs.Tags.{tag_len}
use Rattle.yaml_emit.specs.declared.style.Style.{Style}
use Rattle.yaml_grammar.specs.Bytes.{at, is_gap}
use Rattle.yaml_grammar.specs.Nodes.{no_pairs}
use Rattle.yaml_grammar.specs.Plain.{as_key}
use Rattle.yaml_grammar.proofs.PlainLaws.{Ends, ends_at_colon, not_true}
use Rattle.yaml_printed.specs.Printable.{IsPrintable, IsTag, a_mapping}
use Rattle.yaml_printed.specs.Printable.{a_pair, a_scalar, a_sequence, an_item, may_ask, no_items, no_pairs}
use Rattle.yaml_printed.proofs.ChosenStyles.{Chosen, chosen, is_block, is_double, is_plain, is_single}
use Rattle.yaml_printed.proofs.Entries.{Begins, KeyFound, KeyIs}
use Rattle.yaml_printed.proofs.Escapes.{double_short, short_append, short_byte, single_short}
use Rattle.yaml_printed.proofs.PlainFits.{PlainText, is_shown, plain_leaf, plain_text, plain_word, quote_word}
use Rattle.yaml_printed.proofs.PlainFits.{shown_gap}
use Rattle.yaml_printed.proofs.Rests.{Rest}
use Rattle.yaml_printed.proofs.Spelling.{spells_text}
use Rattle.yaml_printed.proofs.TreeEnds.{begins_gap}
use Rattle.yaml_printed.proofs.KeyLines.{KeyCompletes, key_text, leaf_keyed, items_keyed, pairs_keyed, content_key}
use Rattle.yaml_printed.proofs.KeyLines.{content_begins}
use Rattle.yaml_printed.proofs.Words.{and_no}
use Rattle.yaml_printed.proofs.QuotedLeaves.{double_at, single_at}

colon_ends : (after : List ℕ) → begins_gap after ≡ true → Ends as_key (58 ∷ after)
colon_ends [] h = absurd (false≢true h)
colon_ends (x ∷ xs) h = ends_at_colon as_key x xs h

-- no plain text is an item's dash
plain_no_dash : {c : ℕ} {cs : List ℕ} (after : List ℕ) → PlainText c cs
    → (at ((c ∷ cs) ++ (58 ∷ after)) 0 == 45 && is_gap (at ((c ∷ cs) ++ (58 ∷ after)) 1)) ≡ false
plain_no_dash {c = c} {cs = cs} after x = go cs (and_parts (is_shown c) (list_all is_shown cs) x.shown).1 x.no_dash
  where
    first : (x y z w : Bool) → ((x || y || z) && (false || w)) ≡ false → (x && w) ≡ false
    first true y z true h = h
    first true y z false h = refl
    first false y z w h = refl

    go : (cs : List ℕ) → list_all is_shown cs ≡ true → (is_dash c && (length cs == 0 || is_first 32 cs)) ≡ false
        → (c == 45 && is_gap (at (cs ++ (58 ∷ after)) 0)) ≡ false
    go [] all h = and_no (c == 45)
    go (d ∷ ds) all h =
        rw (shown_gap d (and_parts (is_shown d) (list_all is_shown ds) all).0)
        (first (c == 45) (c == 63) (c == 58) (d == 32)
        (ap (λ w. is_dash c && (w || d == 32)) (sym (ne_eqb (suc (length ds)) 0 (λ e. absurd (omega (arith, e))))) ∙ h))

-- what is proved of a key's text
record Keyed (text : List ℕ) (d : ℕ) (n : EmitNode) (own : List ℕ) : Type 0 where
  found : (i : ℕ) (after : List ℕ) → Rest text i (own ++ after) → begins_gap after ≡ true → KeyFound text d i n after
  begins : (after : List ℕ) → begins_gap after ≡ true → Begins (own ++ after)

single_lines : (t : List ℕ) → fits_single_quotes t ≡ true → list_all is_line_text (chars t) ≡ true
single_lines t h =
    (and_parts (not (stand_side_by_side 32 10 t) && not (stand_side_by_side 10 32 t))
    (list_all is_line_text (chars t)) h).1

scalar_key : (text : List ℕ) (d : ℕ) (tag : Option (List ℕ)) → IsTag tag → (t : List ℕ) → IsUtf8 t
    → (ask : AskedStyle) → (indent : ℕ) → 0 < indent
    → (s : Style) → Chosen ask true t s → list_any is_break (chars t) ≡ false
    → tag_len (tag_or_empty tag) + length t ≤ 128
    → Keyed text d (emit_scalar_node tag t ask) (key_text tag (in_style indent s t))
scalar_key text d tag g [] u ask indent inner _ (is_plain fits key allowed) calm near = absurd (false≢true (sym key))
scalar_key text d tag g (y ∷ ys) u ask indent inner _ (is_plain fits key allowed) calm near =
    let x = plain_text y ys u fits in
    record {
      found = λ i after r gap. content_key tag g y ys (plain_word x) (length (y ∷ ys))
          (record { spells = spells_text (y ∷ ys) u x.letters; size = omega arith }) (omega (arith, near)) i after r gap
          (λ k q. leaf_keyed style.Plain (plain_leaf 58 after as_key x refl refl refl q (colon_ends after gap))
          allowed);
      begins =
          λ after gap. content_begins tag g y ys after (plain_word x) (x.whole 58 after refl refl)
          (plain_no_dash after x);
    }
scalar_key text d tag g t u ask indent inner _ (is_single fits allowed) calm near = record {
  found =
      λ i after r gap. content_key tag g 39 (single_rest indent false (chars t) ++ 39 ∷ []) (quote_word 39 refl)
      (4 * length t + 2)
      (single_short indent t u (single_lines t fits) calm) (omega (arith, near)) i after r gap
      (λ k q. leaf_keyed style.SingleQuoted (single_at as_key 58 after indent t k u fits inner refl q) allowed);
  begins =
      λ after gap. content_begins tag g 39 (single_rest indent false (chars t) ++ 39 ∷ []) after (quote_word 39 refl)
      refl refl;
}
scalar_key text d tag g t u ask indent inner _ (is_double allowed) calm near = record {
  found =
      λ i after r gap. content_key tag g 34 (flat_map escaped_character (chars t) ++ 34 ∷ []) (quote_word 34 refl)
      (4 * length t + 2)
      (double_short t u) (omega (arith, near)) i after r gap
      (λ k q. leaf_keyed style.DoubleQuoted (double_at as_key (58 ∷ after) t k u q) allowed);
  begins =
      λ after gap. content_begins tag g 34 (flat_map escaped_character (chars t) ++ 34 ∷ []) after
      (quote_word 34 refl) refl refl;
}
scalar_key text d tag g t u ask indent inner _ (is_block key fits allowed) calm near = absurd (false≢true (sym key))

two_on : (k : ℕ) → suc (suc k) ≡ k + 2
two_on k = omega arith

key_by : (text : List ℕ) {d : ℕ} {key : Bool} {n : EmitNode} → IsPrintable d key n → key ≡ true → is_simple_key n ≡ true
    → (c : ℕ) → KeyIs text d c n
key_by text (a_scalar {d = d} {key = key} {tag = tag} {text = t} {style = ask} g u may) is_key simple c =
    let p = and_parts (not (has_break t)) (is_short (tag_or_empty tag) (length t)) simple in
    let x = scalar_key text d tag g t u ask (max (c + 2) 2) (omega arith) (chosen_style t ask true)
    (chosen ask true t (ap (λ b. may_ask ask b t) (sym is_key) ∙ may)) (not_true (has_break t) p.0)
    (leb-true (tag_len (tag_or_empty tag) + length t) 128 p.1) in
    record { found = x.found; begins = x.begins }
key_by text (a_sequence {d = d} {tag = tag} g no_items) is_key simple c = record {
  found = λ i after r gap. content_key tag g 91 (93 ∷ []) (quote_word 91 refl) 2
      (short_append (short_byte 91 (omega arith) refl) (short_byte 93 (omega arith) refl))
      (omega (arith, leb-true (tag_len (tag_or_empty tag) + 0) 128 simple)) i after r gap
      (λ k q. subst (λ m. KeyCompletes text (suc d) tag k m (emit_sequence_node tag no_emit_nodes)) (two_on k)
      (items_keyed (58 ∷ after) q));
  begins = λ after gap. content_begins tag g 91 (93 ∷ []) after (quote_word 91 refl) refl refl;
}
key_by text (a_sequence {tag = tag} g (an_item h hs)) is_key simple c = absurd (false≢true simple)
key_by text (a_mapping {d = d} {tag = tag} g no_pairs) is_key simple c = record {
  found = λ i after r gap. content_key tag g 123 (125 ∷ []) (quote_word 123 refl) 2
      (short_append (short_byte 123 (omega arith) refl) (short_byte 125 (omega arith) refl))
      (omega (arith, leb-true (tag_len (tag_or_empty tag) + 0) 128 simple)) i after r gap
      (λ k q. subst (λ m. KeyCompletes text (suc d) tag k m (emit_mapping_node tag no_emit_pairs)) (two_on k)
      (pairs_keyed (58 ∷ after) q));
  begins = λ after gap. content_begins tag g 123 (125 ∷ []) after (quote_word 123 refl) refl refl;
}
key_by text (a_mapping {tag = tag} g (a_pair h i hs)) is_key simple c = absurd (false≢true simple)

pub key_is : (text : List ℕ) (d c : ℕ) (n : EmitNode) → IsPrintable d (is_simple_key n) n → is_simple_key n ≡ true
    → KeyIs text d c n
key_is text d c n f simple = key_by text f simple simple c

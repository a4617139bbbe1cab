-- A key in a line, behind its tag.
use Rattle.std.proofs.Common.{◌≡◌, ℕ, suc, ◌+◌, ◌-◌, ◌*◌, ◌<◌, ◌≤◌, Bool, true, false, not, ◌==◌, ◌&&◌, refl, sym}
use Rattle.std.proofs.Common.{subst, ap, ◌∙◌, arith, List, [], ◌∷◌, ◌++◌, length, take, Option, Some, nat_le, nat_eq}
use Rattle.std.proofs.Common.{append_assoc}
use Rattle.std.proofs.lemmas.Bool.{and_parts, false≢true, le-leb, ne_eqb}
use Rattle.std.proofs.lemmas.List.{length-append}
use Rattle.std.proofs.Math.Seq.{take-append_seam}
use Rattle.std.specs.List.{list_all, list_any}
use Rattle.std.specs.Prelude.{IsTrue, slice_range}
use Rattle.yaml_base.specs.EmitTree.{EmitNode, emit_scalar_node, emit_sequence_node, emit_mapping_node}
use Rattle.yaml_base.specs.EmitTree.{emit_node_events}
use Rattle.yaml_base.specs.EmitTree.{no_emit_nodes, no_emit_pairs}
use Rattle.yaml_base.specs.MarkedEvents.{events_in}
use Rattle.yaml_base.specs.Renders.{Renders, permits}
use Rattle.yaml_base.specs.declared.emitter.AskedStyle.{AskedStyle}
use Rattle.yaml_base.specs.declared.event.ScalarStyle.{ScalarStyle}
use Rattle.yaml_emit.specs.Characters.{is_printable}
use Rattle.yaml_emit.specs.Places.{behind_tag, in_line, tag_in_line}
use Rattle.yaml_emit.specs.StreamTexts.{tag_or_empty}
use Rattle.yaml_emit.specs.Tags.{printed_tag, tag_len}
use Rattle.yaml_emit.specs.declared.open.Lead.TheVariants.{Fresh}
use Rattle.yaml_grammar.specs.Blocks.{Key, collection_key, ends_key, leaf_key}
use Rattle.yaml_grammar.specs.Brackets.{Brackets, FlowEntries, FlowItems, curly, no_flow_entry, no_flow_item, square}
use Rattle.yaml_grammar.specs.Bytes.{at, is_gap, is_one_line, parts}
use Rattle.yaml_grammar.specs.Gaps.{breaks, next}
use Rattle.yaml_grammar.specs.Leaves.{in_style as in_leaf_style, leaf_at}
use Rattle.yaml_grammar.specs.Names.{names_at}
use Rattle.yaml_grammar.specs.Nodes.{Node, mapping, mark, no_nodes, no_pairs, node_events, scalar_at, sequence}
use Rattle.yaml_grammar.specs.Plain.{as_key}
use Rattle.yaml_grammar.proofs.LineLaws.{IsWord}
use Rattle.yaml_grammar.proofs.PlainLaws.{not_true}
use Rattle.yaml_printed.specs.Printable.{IsTag}
use Rattle.yaml_printed.specs.Printable.{a_tag, no_pairs, no_tag}
use Rattle.yaml_printed.proofs.ByteLaws.{encodes_all}
use Rattle.yaml_printed.proofs.Collections.{names_of}
use Rattle.yaml_printed.proofs.Entries.{Begins, KeyFound}
use Rattle.yaml_printed.proofs.Escapes.{Short, short_append, short_byte, short_wider}
use Rattle.yaml_printed.proofs.Inline.{word_token}
use Rattle.yaml_printed.proofs.Rests.{Next, Rest, next_space, next_token, rest_at, rest_is, rest_on, rest_skip}
use Rattle.yaml_printed.proofs.Spelling.{Spells}
use Rattle.yaml_printed.proofs.TagNames.{names_plain, names_tag}
use Rattle.yaml_printed.proofs.TagBytes.{a_word, tag_begins, tag_short}
use Rattle.yaml_printed.proofs.TreeEnds.{begins_gap}

-- ---- in one line

abbrev is_in_line : ℕ → Bool
is_in_line b = not (nat_eq 10 b)

no_feeds : (xs : List ℕ) → list_all is_in_line xs ≡ true → list_any (nat_eq 10) xs ≡ false
no_feeds [] h = refl
no_feeds (x ∷ xs) h =
    let p = and_parts (is_in_line x) (list_all is_in_line xs) h in
    rw (not_true (nat_eq 10 x) p.0) (no_feeds xs p.1)

beyond_line : (b : ℕ) → 128 ≤ b → b < 256 → is_in_line b ≡ true
beyond_line b h top = rw (ne_eqb 10 b (λ e. absurd (omega (arith, e, h)))) refl

printable_line : (c : ℕ) → is_printable c ≡ true → c < 128 → is_in_line c ≡ true
printable_line c h low = rw (ne_eqb 10 c (λ e. absurd (false≢true (ap is_printable e ∙ h)))) refl

spelled_line : {xs : List ℕ} → Spells is_printable xs → list_any (nat_eq 10) xs ≡ false
spelled_line {xs = xs} s =
    no_feeds xs (subst (λ l. list_all is_in_line l ≡ true) s.same
    (encodes_all is_in_line beyond_line is_printable printable_line s.letters s.are s.pass))

take_front : (xs ys : List ℕ) (n : ℕ) → n ≡ length xs → take n (xs ++ ys) ≡ xs
take_front xs ys n e = ap (λ m. take m (xs ++ ys)) e ∙ take-append_seam xs ys

-- the `:` of a key that is one line and short
key_ends : {text : List ℕ} {i m : ℕ} (own after : List ℕ) → Rest text i (own ++ (58 ∷ after)) → m ≡ i + length own
    → Short 1000 own → begins_gap after ≡ true → ends_key text i m ≡ true
key_ends {text = text} {i = i} {m = m} own after r e s gap =
    let r1 : Rest text m (58 ∷ after) = subst (λ k. Rest text k (58 ∷ after)) (sym e) (rest_skip own r) in
    let n : Next text m m false = next_token r1 refl in
    let range : slice_range text i m ≡ own
    = ap (take (m - i)) r.same ∙ take_front own (58 ∷ after) (m - i) (omega (arith, e)) in
    let one : is_one_line text i m ≡ true
    = ap (λ l. not (list_any (nat_eq 10) l)) range ∙ ap not (spelled_line s.spells) in
    let near : nat_le m (i + 1024) ≡ true = le-leb m (i + 1024) (omega (arith, e, s.size)) in
    let behind : is_gap (at text (m + 1)) ≡ true
    = ap (λ k. is_gap (at text k)) (omega arith) ∙ rest_gap' after gap (rest_on r1) in
    rw (n.there, rest_at r1, one, near) behind
  where
    rest_gap' : {text : List ℕ} {i : ℕ} (xs : List ℕ) → begins_gap xs ≡ true → Rest text i xs
        → is_gap (at text i) ≡ true
    rest_gap' [] h r = absurd (false≢true h)
    rest_gap' (c ∷ cs) h r = ap is_gap (rest_at r) ∙ h

-- ---- behind names

-- a key behind its names, whatever these are
pub record KeyHere (text : List ℕ) (d i m : ℕ) (n : EmitNode) : Type 0 where
  pub node : Node
  pub key : Key text d i m node
  pub same : Renders (emit_node_events n) (events_in (node_events node))

abbrev pub KeyCompletes : List ℕ → (d : ℕ) → Option (List ℕ) → (k m : ℕ) → EmitNode → Type 0
KeyCompletes text d tag k m n = (i p : ℕ) → names_at text false i ≡ Some (names_of tag, p) → next text p ≡ k
    → breaks text p ≡ false → next text m ≡ m → ends_key text i m ≡ true → KeyHere text d i m n

abbrev pub key_text : (tag : Option (List ℕ)) → (content : List ℕ) → List ℕ
key_text tag content =
    tag_in_line Fresh (tag_or_empty tag) ++ (in_line (behind_tag Fresh (tag_or_empty tag)) content ++ (58 ∷ []))

pub leaf_keyed : {text : List ℕ} {d k m : ℕ} {tag : Option (List ℕ)} {said : List ℕ} {ask : AskedStyle}
    (how : ScalarStyle)
    → leaf_at text as_key k ≡ Some (in_leaf_style how said, m) → IsTrue (permits ask how)
    → KeyCompletes text d tag k m (emit_scalar_node tag said ask)
leaf_keyed {text = text} {d = d} {m = m} {tag = tag} {said = said} how leaf allowed i p named there joined n ends =
    let x = scalar_at text i (names_of tag) how said m in
    record {
      node = x;
      key = subst (λ q. Key text d i q x) n (leaf_key named joined (ap (leaf_at text as_key) there ∙ leaf) refl ends);
      same = ((_, refl, record { unanchored = refl; same_tag = refl; same_text = refl; permitted = allowed }), tt);
    }

pub items_keyed : {text : List ℕ} {d k : ℕ} {tag : Option (List ℕ)} (xs : List ℕ) → Rest text k (91 ∷ 93 ∷ xs)
    → KeyCompletes text (suc d) tag k (suc (suc k)) (emit_sequence_node tag no_emit_nodes)
items_keyed {text = text} {d = d} {k = k} {tag = tag} xs r i p named there joined n ends =
    let inner : Next text (suc k) (suc k) false = next_token (rest_on r) refl in
    let x = sequence (mark text i) (names_of tag) no_nodes (mark text (suc k)) in
    let whole : Brackets text (suc d) i (names_of tag) k (suc (suc k)) x
    = square (rest_at r) (subst (λ q. FlowItems text d q (suc k) no_nodes) (sym inner.there)
    (no_flow_item (rest_at (rest_on r)))) in
    record {
      node = x;
      key = subst (λ q. Key text (suc d) i q x) n
          (collection_key named joined (subst (λ q. Brackets text (suc d) i (names_of tag) q (suc (suc k)) x)
          (sym there) whole) ends);
      same = (refl, (refl, tt));
    }

pub pairs_keyed : {text : List ℕ} {d k : ℕ} {tag : Option (List ℕ)} (xs : List ℕ) → Rest text k (123 ∷ 125 ∷ xs)
    → KeyCompletes text (suc d) tag k (suc (suc k)) (emit_mapping_node tag no_emit_pairs)
pairs_keyed {text = text} {d = d} {k = k} {tag = tag} xs r i p named there joined n ends =
    let inner : Next text (suc k) (suc k) false = next_token (rest_on r) refl in
    let x = mapping (mark text i) (names_of tag) no_pairs (mark text (suc k)) in
    let whole : Brackets text (suc d) i (names_of tag) k (suc (suc k)) x
    = curly (rest_at r) (subst (λ q. FlowEntries text d q (suc k) no_pairs) (sym inner.there)
    (no_flow_entry (rest_at (rest_on r)))) in
    record {
      node = x;
      key = subst (λ q. Key text (suc d) i q x) n
          (collection_key named joined (subst (λ q. Brackets text (suc d) i (names_of tag) q (suc (suc k)) x)
          (sym there) whole) ends);
      same = (refl, (refl, tt));
    }

-- a content as a key, behind its tag
pub content_key : {text : List ℕ} {d : ℕ} {n : EmitNode} (tag : Option (List ℕ)) → IsTag tag → (c : ℕ) (cs : List ℕ)
    → IsWord c
    → (most : ℕ) → Short most (c ∷ cs) → 3 * tag_len (tag_or_empty tag) + most ≤ 900 → (i : ℕ) (after : List ℕ)
    → Rest text i (key_text tag (c ∷ cs) ++ after) → begins_gap after ≡ true
    → ((k : ℕ) → Rest text k ((c ∷ cs) ++ (58 ∷ after)) → KeyCompletes text d tag k (k + length (c ∷ cs)) n)
    → KeyFound text d i n after
content_key {text = text} {d = d} {n = n} _ no_tag c cs w most s near i after r gap whole =
    let r1 : Rest text i ((c ∷ cs) ++ (58 ∷ after)) = rest_is (append_assoc (c ∷ cs) (58 ∷ []) after) r in
    let m = i + length (c ∷ cs) in
    let r2 : Rest text m (58 ∷ after) = rest_skip (c ∷ cs) r1 in
    let n1 : Next text i i false = next_token r1 (word_token c (cs ++ (58 ∷ after)) w) in
    let n2 : Next text m m false = next_token r2 refl in
    let x = whole i r1 i i (names_plain r1 w) n1.there n1.breaks n2.there
    (key_ends (c ∷ cs) after r1 refl (short_wider (omega (arith, near)) s) gap) in
    record { colon = m; node = x.node; key = x.key; same = x.same; rest = rest_on r2 }
content_key {text = text} {d = d} {n = n} _ (a_tag {c = t} {cs = ts} u z) c cs w most s near i after r gap whole =
    let tag = printed_tag (t ∷ ts) in
    let own = tag ++ (32 ∷ c ∷ cs) in
    let r1 : Rest text i (own ++ (58 ∷ after))
    = rest_is (ap (λ l. l ++ after) (sym (append_assoc tag (32 ∷ c ∷ cs) (58 ∷ [])))
    ∙ append_assoc own (58 ∷ []) after) r in
    let r1' : Rest text i (tag ++ (32 ∷ ((c ∷ cs) ++ (58 ∷ after))))
    = rest_is (append_assoc tag (32 ∷ c ∷ cs) (58 ∷ after)) r1 in
    let p = i + length tag in
    let r2 : Rest text p (32 ∷ ((c ∷ cs) ++ (58 ∷ after))) = rest_skip tag r1' in
    let m = suc p + length (c ∷ cs) in
    let r3 : Rest text m (58 ∷ after) = rest_skip (c ∷ cs) (rest_on r2) in
    let n1 : Next text p (suc p) false = next_space r2 (word_token c (cs ++ (58 ∷ after)) w) in
    let n2 : Next text m m false = next_token r3 refl in
    let short = short_append (tag_short (t ∷ ts) (a_tag u z)) (short_append (short_byte 32 (omega arith) refl) s) in
    let x = whole (suc p) (rest_on r2) i p (names_tag (32 ∷ ((c ∷ cs) ++ (58 ∷ after))) (t ∷ ts) (a_tag u z) r1'
    (a_word w))
    n1.there n1.breaks n2.there
    (key_ends own after r1 (omega (arith, length-append tag (32 ∷ c ∷ cs))) (short_wider (omega (arith, near)) short)
    gap) in
    record { colon = m; node = x.node; key = x.key; same = x.same; rest = rest_on r3 }

-- how it begins
pub content_begins : (tag : Option (List ℕ)) → IsTag tag → (c : ℕ) (cs after : List ℕ) → IsWord c
    → parts ((c ∷ cs) ++ (58 ∷ after)) ≡ false → (at ((c ∷ cs) ++ (58 ∷ after)) 0 == 45 && is_gap
    (at ((c ∷ cs) ++ (58 ∷ after)) 1)) ≡ false
    → Begins (key_text tag (c ∷ cs) ++ after)
content_begins _ no_tag c cs after w clear no_dash =
    subst Begins (sym (append_assoc (c ∷ cs) (58 ∷ []) after))
    (record { some = λ e. absurd (cc); token = word_token c (cs ++ (58 ∷ after)) w; whole = clear; no_dash = no_dash })
content_begins _ (a_tag {c = t} {cs = ts} u z) c cs after w clear no_dash =
    let b = tag_begins (t ∷ ts) in
    subst (λ l. Begins ((l ++ (32 ∷ ((c ∷ cs) ++ (58 ∷ [])))) ++ after)) (sym b.1)
    (record { some = λ e. absurd (cc); token = refl; whole = refl; no_dash = refl })

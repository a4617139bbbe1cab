-- Plain texts in lines of their own, each behind `-`, stand as a document that is a sequence of them.
use Rattle.std.proofs.Common.{◌≡◌, ℕ, suc, ◌+◌, ◌&&◌, not, true, false, List, [], ◌∷◌, ◌++◌, length}
use Rattle.std.proofs.Common.{refl, sym, ap, ◌∙◌, append_assoc, arith, codes, flat_map, subst, drop, nat_le, true≢false}
use Rattle.std.proofs.lemmas.Bool.{and_parts}
use Rattle.std.specs.List.{list_all}
use Rattle.yaml_base.specs.declared.event.ScalarStyle.TheVariants as style
use Rattle.yaml_grammar.specs.Blocks.{Items, a_sequence, an_item, no_item}
use Rattle.yaml_grammar.specs.Bytes.{at, column, is_over, is_text}
use Rattle.yaml_grammar.specs.Documents.{Documents, bare_document, no_document, none}
use Rattle.yaml_grammar.specs.Gaps.{is_item}
use Rattle.yaml_grammar.specs.Names.{unnamed}
use Rattle.yaml_grammar.specs.Nodes.{Document, Marked, Nodes, end_mark, mark, no_nodes, node, nodes_events, scalar_at}
use Rattle.yaml_grammar.specs.Nodes.{sequence}
use Rattle.yaml_grammar.specs.PlainLines.{is_less_in, is_plain_line, item_lines}
use Rattle.yaml_grammar.specs.Shown.{HasEvents, item_words, list_words, shown_byte, shown_events}
use Rattle.yaml_grammar.proofs.ItemLaws.{at_drop, item_stands}
use Rattle.yaml_grammar.proofs.LeafLaws.{first_is, later_are}
use Rattle.yaml_grammar.proofs.LineLaws.{Follows, a_word, behind_feed, dash_word, is_end, is_inside, later_of}
use Rattle.yaml_grammar.proofs.LineLaws.{next_word}
use Rattle.yaml_grammar.proofs.LineLaws.{nothing_more}

-- the place behind an item, and behind all
abbrev behind_item : (i : ℕ) (t : List ℕ) → ℕ
behind_item i t = suc (suc i) + length t + 1

abbrev end_of : (i : ℕ) → List (List ℕ) → ℕ
end_of i [] = i
end_of i (t ∷ ts) = end_of (behind_item i t) ts

-- the items
abbrev item_nodes : (text : List ℕ) (i : ℕ) → List (List ℕ) → Nodes
item_nodes text i [] = no_nodes
item_nodes text i (t ∷ ts) =
    node (scalar_at text (suc (suc i)) unnamed style.Plain t (suc (suc i) + length t))
    (item_nodes text (behind_item i t) ts)

follows_is : (ts : List (List ℕ)) → Follows (item_lines ts)
follows_is [] = nothing_more
follows_is (t ∷ ts) = a_word dash_word

less_is : (ts : List (List ℕ)) → is_less_in 1 0 (item_lines ts) ≡ true
less_is [] = refl
less_is (t ∷ ts) = refl

-- what is left behind an item
behind_is : (text : List ℕ) (i : ℕ) (t rest : List ℕ) → drop i text ≡ 45 ∷ 32 ∷ (t ++ 10 ∷ rest)
    → drop (suc (suc i) + length t) text ≡ 10 ∷ rest
behind_is text i t rest e =
    later_of text (suc (suc i)) t (10 ∷ rest) (later_are text (suc i) 32 _ (later_are text i 45 _ e))

next_drop : (text : List ℕ) (i : ℕ) (t rest : List ℕ) → drop i text ≡ 45 ∷ 32 ∷ (t ++ 10 ∷ rest)
    → drop (behind_item i t) text ≡ rest
next_drop text i t rest e =
    let same : suc (suc i) + length t + 1 ≡ suc (suc (suc i) + length t) = omega arith in
    ap (λ k. drop k text) same ∙ later_are text (suc (suc i) + length t) 10 rest (behind_is text i t rest e)

next_column : (text : List ℕ) (i : ℕ) (t rest : List ℕ) → drop i text ≡ 45 ∷ 32 ∷ (t ++ 10 ∷ rest)
    → column text (behind_item i t) ≡ 0
next_column text i t rest e =
    let same : suc (suc i) + length t + 1 ≡ suc (suc (suc i) + length t) = omega arith in
    ap (column text) same
    ∙ behind_feed text (suc (suc i) + length t)
    (first_is text (suc (suc i) + length t) 10 rest (behind_is text i t rest e))

is_item_here : (text : List ℕ) (i : ℕ) (cs : List ℕ) → drop i text ≡ 45 ∷ 32 ∷ cs → column text i ≡ 0
    → is_item text 0 i ≡ true
is_item_here text i cs e c =
    let next : i + 1 ≡ suc i = omega arith in
    let second : at text (i + 1) ≡ 32 = ap (at text) next ∙ first_is text (suc i) 32 _ (later_are text i 45 _ e) in
    rw (first_is text i 45 _ e, second, c) refl

over_is : (text : List ℕ) (i : ℕ) → drop i text ≡ [] → is_over text i ≡ true
over_is text i e = rw (is_end text i e) refl

no_item_here : (text : List ℕ) (i : ℕ) → drop i text ≡ [] → is_item text 0 i ≡ false
no_item_here text i e =
    let none_here : at text i ≡ 0 = at_drop text i ∙ ap (λ l. at l 0) e in
    rw none_here refl

end_drop : (text : List ℕ) (ts : List (List ℕ)) (i : ℕ) → drop i text ≡ item_lines ts → drop (end_of i ts) text ≡ []
end_drop text [] i e = e
end_drop text (t ∷ ts) i e = end_drop text ts (behind_item i t) (next_drop text i t (item_lines ts) e)

items_stand : (text : List ℕ) (d : ℕ) (ts : List (List ℕ)) (i : ℕ) → list_all is_plain_line ts ≡ true
    → column text i ≡ 0 → drop i text ≡ item_lines ts → Items text d 0 i (end_of i ts) (item_nodes text i ts)
items_stand text d [] i fits c e =
    no_item (no_item_here text i e) (ap (λ b. not b && nat_le 1 (column text i)) (over_is text i e))
items_stand text d ([] ∷ ts) i fits c e = absurd (true≢false (sym fits))
items_stand text d ((b ∷ bs) ∷ ts) i fits c e =
    let parts = and_parts _ _ fits in
    an_item (is_item_here text i _ e c)
    (item_stands text d i b bs (item_lines ts) parts.0 e (follows_is ts) (less_is ts))
    (items_stand text d ts (behind_item i (b ∷ bs)) parts.1 (next_column text i (b ∷ bs) (item_lines ts) e)
    (next_drop text i (b ∷ bs) (item_lines ts) e))

words_are : (text : List ℕ) (ts : List (List ℕ)) (i : ℕ) (x y z : List Marked)
    → shown_events (((nodes_events (item_nodes text i ts) ++ x) ++ y) ++ z)
    ≡ item_words ts ++ shown_events ((x ++ y) ++ z)
words_are text [] i x y z = refl
words_are text (t ∷ ts) i x y z =
    ap (λ w. codes " =VAL :" ++ (flat_map shown_byte t ++ w)) (words_are text ts (behind_item i t) x y z)
    ∙ ap (λ w. codes " =VAL :" ++ w)
    (sym (append_assoc (flat_map shown_byte t) (item_words ts) (shown_events ((x ++ y) ++ z))))

pub list_stands : (t : List ℕ) (ts : List (List ℕ)) → list_all is_plain_line (t ∷ ts) ≡ true
    → is_text (item_lines (t ∷ ts)) ≡ true → HasEvents (item_lines (t ∷ ts)) (list_words (t ∷ ts))
list_stands t ts fits characters =
    let text = item_lines (t ∷ ts) in
    let end = end_of 0 (t ∷ ts) in
    let gone = end_drop text (t ∷ ts) 0 refl in
    let n = next_word text 0 45 _ refl dash_word in
    let root = sequence (mark text 0) unnamed (item_nodes text 0 (t ∷ ts)) (end_mark text 0 end) in
    let document : Document = record { start = mark text 0; root = root; end = end_mark text 0 end } in
    record {
      documents = document ∷ [];
      stand = record {
        characters = characters;
        from_first_token = subst (λ k. Documents text none k (document ∷ [])) (sym n.there)
            (bare_document (begins_here t ts) (a_sequence refl refl (items_stand text 127 (t ∷ ts) 0 fits refl refl))
            (over_is text end gone) (no_document (is_end text end gone)));
      };
      said = ap (λ w. codes " +STR +DOC +SEQ" ++ w) (words_are text (t ∷ ts) 0 _ _ _);
    }
  where
    begins_here : (t : List ℕ) (ts : List (List ℕ)) → is_over (item_lines (t ∷ ts)) 0 ≡ false
    begins_here t ts = rw (is_inside (item_lines (t ∷ ts)) 0 45 _ refl) refl

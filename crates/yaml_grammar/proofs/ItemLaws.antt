-- Plain texts in lines of their own, each behind `-`, stand as the items of a sequence.
use Rattle.std.proofs.Common.{◌≡◌, ℕ, suc, ◌+◌, ◌==◌, ◌&&◌, ◌||◌, not, Bool, true, false, List, [], ◌∷◌, ◌++◌, length}
use Rattle.std.proofs.Common.{Some, refl, sym, ap, ◌∙◌, arith, subst, drop, nat_eq, nat_le, true≢false, ne_eqb, codes}
use Rattle.std.proofs.Common.{option_and_then}
use Rattle.std.proofs.lemmas.Bool.{and_parts}
use Rattle.std.proofs.lemmas.List.{get_or-drop}
use Rattle.yaml_base.specs.declared.event.ScalarStyle.TheVariants as style
use Rattle.yaml_grammar.specs.Blocks.{Behind, BlockNode, a_leaf, anything, in_its_line}
use Rattle.yaml_grammar.specs.Bytes.{at, column, is_gap, is_indicator, is_one_of}
use Rattle.yaml_grammar.specs.Gaps.{ends_its_line, follows, is_within, next}
use Rattle.yaml_grammar.specs.Leaves.{in_style, leaf_at}
use Rattle.yaml_grammar.specs.Names.{count_while, names_at, one_name, unnamed}
use Rattle.yaml_grammar.specs.Nodes.{scalar_at}
use Rattle.yaml_grammar.specs.Plain.{begins_plain, by_columns}
use Rattle.yaml_grammar.specs.PlainLines.{begins_line, is_less_in, is_plain_line}
use Rattle.yaml_grammar.proofs.LeafLaws.{first_is, later_are, line_leaf}
use Rattle.yaml_grammar.proofs.LineLaws.{Follows, IsWord, behind_space_column, ends_is, is_inside, later_of, next_feed}
use Rattle.yaml_grammar.proofs.LineLaws.{next_space}
use Rattle.yaml_grammar.proofs.LineLaws.{next_word, word_is}
use Rattle.yaml_grammar.proofs.PlainLaws.{not_true}

no_spaces : (c : ℕ) (cs : List ℕ) → IsWord c → count_while (nat_eq 32) (c ∷ cs) ≡ 0
no_spaces c cs w =
    let other : nat_eq 32 c ≡ false = ne_eqb 32 c (λ z. true≢false (ap (λ x. x == 32) z ∙ w.no_space)) in
    rw other refl

pub at_drop : (text : List ℕ) (j : ℕ) → at text j ≡ at (drop j text) 0
at_drop text j =
    let same : j ≡ j + 0 = omega arith in
    ap (at text) same ∙ sym (get_or-drop j text 0 0)

-- no names stand before a word
one_is : (text : List ℕ) (k c : ℕ) (cs : List ℕ) → drop k text ≡ c ∷ cs → IsWord c
    → one_name text false (unnamed, k) ≡ Some (unnamed, k)
one_is text k c cs e w =
    let size : count_while (nat_eq 32) (drop k text) ≡ 0 = ap (count_while (nat_eq 32)) e ∙ no_spaces c cs w in
    let here : k + count_while (nat_eq 32) (drop k text) ≡ k = omega (arith, size) in
    rw (here, first_is text k c cs e, w.no_anchor, w.no_tag) refl

names_are : (text : List ℕ) (k c : ℕ) (cs : List ℕ) → drop k text ≡ c ∷ cs → IsWord c
    → names_at text false k ≡ Some (unnamed, k)
names_are text k c cs e w =
    ap (option_and_then (one_name text false)) (one_is text k c cs e w) ∙ one_is text k c cs e w

gap_same : (cs rest : List ℕ) → is_gap (at (cs ++ 10 ∷ rest) 0) ≡ is_gap (at cs 0)
gap_same [] rest = refl
gap_same (c ∷ cs) rest = refl

regrouped : (x y z w : Bool) → (x && (y && (z || w))) ≡ true → (x && (y && (true && (z || (w && true))))) ≡ true
regrouped true true true w h = refl
regrouped true true false true h = refl
regrouped true true false false h = h
regrouped true false z w h = h
regrouped false y z w h = h

-- a line that begins so begins plain text behind a space
begins_is : (text : List ℕ) (k c : ℕ) (cs rest : List ℕ) → drop k text ≡ c ∷ (cs ++ 10 ∷ rest)
    → (column text k == 0) ≡ false → begins_line (c ∷ cs) ≡ true → begins_plain text false k ≡ true
begins_is text k c cs rest e inner begins =
    let next : k + 1 ≡ suc k = omega arith in
    let second : is_gap (at text (k + 1)) ≡ is_gap (at cs 0)
    = ap is_gap (ap (at text) next ∙ (at_drop text (suc k) ∙ ap (λ l. at l 0) (later_are text k c _ e)))
    ∙ gap_same cs rest in
    rw (first_is text k c _ e, inner, second)
    (regrouped (not (is_gap c)) (not (is_indicator c)) (not (is_one_of (codes "-?:") c)) (not (is_gap (at cs 0)))
    begins)

-- the item behind `-` and a space
pub item_stands : (text : List ℕ) (d i c : ℕ) (cs rest : List ℕ) → is_plain_line (c ∷ cs) ≡ true
    → drop i text ≡ 45 ∷ 32 ∷ (c ∷ (cs ++ 10 ∷ rest)) → Follows rest → is_less_in 1 0 rest ≡ true
    → Behind text d 0 anything (suc i) (suc (suc i) + length (c ∷ cs) + 1)
    (scalar_at text (suc (suc i)) unnamed style.Plain (c ∷ cs) (suc (suc i) + length (c ∷ cs)))
item_stands text d i c cs rest fits e f less =
    let one : suc i + 1 ≡ suc (suc i) = omega arith in
    let none : suc (suc i) + 0 ≡ suc (suc i) = omega arith in
    let parts = and_parts _ _ fits in
    let begins : begins_line (c ∷ cs) ≡ true = parts.0 in
    let gap = not_true _ (and_parts _ _ begins).0 in
    let other = not_true _ (and_parts _ _ (and_parts _ _ begins).1).0 in
    let w = word_is c gap other in
    let e0 : drop (suc i) text ≡ 32 ∷ (c ∷ (cs ++ 10 ∷ rest)) = later_are text i 45 _ e in
    let e1 : drop (suc (suc i)) text ≡ c ∷ (cs ++ 10 ∷ rest) = later_are text (suc i) 32 _ e0 in
    let e2 : drop (suc (suc i) + length (c ∷ cs)) text ≡ 10 ∷ rest
    = later_of text (suc (suc i)) (c ∷ cs) (10 ∷ rest) e1 in
    let n0 = next_space text (suc i) c _ e0 w in
    let n1 = next_word text (suc (suc i)) c _ e1 w in
    let n2 = next_feed text (suc (suc i) + length (c ∷ cs)) rest e2 f in
    let open0 : ends_its_line text (suc i) ≡ false
    = ends_is text (suc i) 1 false n0 ∙ (ap (nat_le (length text)) one ∙ is_inside text (suc (suc i)) c _ e1) in
    let open1 : ends_its_line text (suc (suc i)) ≡ false
    = ends_is text (suc (suc i)) 0 false n1
    ∙ (ap (nat_le (length text)) none ∙ is_inside text (suc (suc i)) c _ e1) in
    let over : ends_its_line text (suc (suc i) + length (c ∷ cs)) ≡ true
    = ends_is text (suc (suc i) + length (c ∷ cs)) 1 true n2 in
    let inner = behind_space_column text i (first_is text (suc i) 32 _ e0) in
    let plain = begins_is text (suc (suc i)) c cs rest e1 inner begins in
    let leaf : leaf_at text (by_columns 1) (next text (suc (suc i)))
    ≡ Some (in_style style.Plain (c ∷ cs), suc (suc i) + length (c ∷ cs))
    = ap (leaf_at text (by_columns 1)) (n1.there ∙ none)
    ∙ line_leaf text rest (c ∷ cs) 1 (suc (suc i)) e1 less plain parts.1 in
    let goes : follows text 1 (suc (suc i)) ≡ true
    = ap (λ b. not b || is_within text 1 (next text (suc (suc i)))) open1 in
    in_its_line open0
    (subst (λ x. BlockNode text d 1 anything x (suc (suc i) + length (c ∷ cs) + 1)
    (scalar_at text (suc (suc i)) unnamed style.Plain (c ∷ cs) (suc (suc i) + length (c ∷ cs)))) (sym (n0.there ∙ one))
    (subst (λ x. BlockNode text d 1 anything (suc (suc i)) x
    (scalar_at text (suc (suc i)) unnamed style.Plain (c ∷ cs) (suc (suc i) + length (c ∷ cs)))) n2.there
    (a_leaf (names_are text (suc (suc i)) c _ e1 w) goes leaf refl over)))

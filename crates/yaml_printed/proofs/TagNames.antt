-- What stands before a node in its line: nothing, or its tag.
use Rattle.std.proofs.Common.{◌≡◌, ℕ, suc, ◌+◌, false, ◌==◌, refl}
use Rattle.std.proofs.Common.{subst, ap, ◌∙◌, arith, List, ◌∷◌, ◌++◌, length, drop, None, Some, nat_eq}
use Rattle.std.proofs.Common.{option_and_then, ne_eqb, true≢false}
use Rattle.yaml_emit.specs.Tags.{printed_tag}
use Rattle.yaml_grammar.specs.Names.{count_while, names_at, one_name, unnamed}
use Rattle.yaml_grammar.proofs.LineLaws.{IsWord}
use Rattle.yaml_printed.specs.Printable.{IsTag}
use Rattle.yaml_printed.proofs.Collections.{names_of}
use Rattle.yaml_printed.proofs.TagLaws.{tag_is}
use Rattle.yaml_printed.proofs.TagBytes.{BehindTag, a_line, a_word, tag_begins}
use Rattle.yaml_printed.proofs.Rests.{Rest, rest_at, rest_on, rest_skip}
use Rattle.yaml_printed.proofs.Words.{and_no}

no_spaces : (c : ℕ) (cs : List ℕ) → (c == 32) ≡ false → count_while (nat_eq 32) (c ∷ cs) ≡ 0
no_spaces c cs h =
    let other : nat_eq 32 c ≡ false = ne_eqb 32 c (λ z. true≢false (ap (λ x. x == 32) z ∙ h)) in
    rw other refl

-- no names stand before a word
one_is : {text : List ℕ} {i c : ℕ} {cs : List ℕ} → Rest text i (c ∷ cs) → IsWord c
    → one_name text false (unnamed, i) ≡ Some (unnamed, i)
one_is {text = text} {i = i} {c = c} {cs = cs} r w =
    let size : count_while (nat_eq 32) (drop i text) ≡ 0
    = ap (count_while (nat_eq 32)) r.same ∙ no_spaces c cs w.no_space in
    let here : i + count_while (nat_eq 32) (drop i text) ≡ i = omega (arith, size) in
    rw (here, rest_at r, w.no_anchor, w.no_tag) refl

pub names_plain : {text : List ℕ} {i c : ℕ} {cs : List ℕ} → Rest text i (c ∷ cs) → IsWord c
    → names_at text false i ≡ Some (names_of None, i)
names_plain {text = text} {i = i} {c = c} {cs = cs} r w =
    ap (option_and_then (one_name text false)) (one_is r w) ∙ one_is r w

names_end : {text : List ℕ} {i : ℕ} {t ys : List ℕ} → Rest text i ys → BehindTag ys
    → one_name text false (names_of (Some t), i) ≡ Some (names_of (Some t), i)
names_end {text = text} {i = i} {t = t} r a_line =
    let size : count_while (nat_eq 32) (drop i text) ≡ 0 = ap (count_while (nat_eq 32)) r.same in
    let here : i + count_while (nat_eq 32) (drop i text) ≡ i = omega (arith, size) in
    rw (here, rest_at r) refl
names_end {text = text} {i = i} {t = t} r (a_word {c = c} {cs = cs} w) =
    let one : count_while (nat_eq 32) (c ∷ cs) ≡ 0 = no_spaces c cs w.no_space in
    let size : count_while (nat_eq 32) (drop i text) ≡ 1 = ap (count_while (nat_eq 32)) r.same ∙ ap suc one in
    let here : i + count_while (nat_eq 32) (drop i text) ≡ suc i = omega (arith, size) in
    rw (here, rest_at (rest_on r), w.no_anchor, and_no (c == 33)) refl

pub names_tag : {text : List ℕ} {i : ℕ} (ys t : List ℕ) → IsTag (Some t) → Rest text i (printed_tag t ++ ys)
    → BehindTag ys → names_at text false i ≡ Some (names_of (Some t), i + length (printed_tag t))
names_tag {text = text} {i = i} ys t f r b =
    let first = tag_begins t in
    let r1 : Rest text i (33 ∷ (first.0 ++ ys)) = subst (λ l. Rest text i (l ++ ys)) first.1 r in
    let size : count_while (nat_eq 32) (drop i text) ≡ 0 = ap (count_while (nat_eq 32)) r1.same in
    let here : i + count_while (nat_eq 32) (drop i text) ≡ i = omega (arith, size) in
    let one : one_name text false (unnamed, i) ≡ Some (names_of (Some t), i + length (printed_tag t))
    = rw (here, rest_at r1, tag_is t f r b) refl in
    ap (option_and_then (one_name text false)) one ∙ names_end (rest_skip (printed_tag t) r) b

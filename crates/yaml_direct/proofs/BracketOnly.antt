-- In brackets only one part stands in a place before the end of a part.
use Rattle.std.proofs.Common.{ℕ, suc, ◌≡◌, ◌≢◌, ◌⊎◌, ◌==◌, ◌||◌, Bool, true, false, List, Some, None, refl, sym, subst, ap}
use Rattle.std.proofs.Common.{◌∙◌, arith, inl, inr, codes}
use Rattle.std.proofs.lemmas.Bool.{and_parts, eqb-true, false≢true, or_cases}
use Rattle.std.specs.Prelude.{if◌then◌else◌}
use Rattle.yaml_direct.specs.LeftInBrackets.{ends_part}
use Rattle.yaml_grammar.specs.Brackets.{FlowEntry, FlowItem, FlowNode, FlowValue, a_flow_value, a_pair, a_single}
use Rattle.yaml_grammar.specs.Brackets.{flow_key_alone, has_colon, key_and_value, no_flow_value, part_after, whole_entry}
use Rattle.yaml_grammar.specs.Bytes.{at, is_one_of}
use Rattle.yaml_grammar.specs.Gaps.{next}
use Rattle.yaml_grammar.specs.Nodes.{Node}
use Rattle.yaml_reading.proofs.BracketForward.{flow_not}
use Rattle.yaml_reading.proofs.BracketReading.{one_node}
use Rattle.yaml_reading.proofs.Options.{no_some}

-- the bytes before which a part ends
pub end_bytes : (c : ℕ) → ends_part c ≡ true → (c ≡ 44) ⊎ ((c ≡ 93) ⊎ (c ≡ 125))
end_bytes c h = elim (or_cases (44 == c) _ (swapped c h)) [
  | inl e ↦ inl (sym (eqb-true 44 c e))
  | inr h ↦ elim (or_cases (93 == c) (125 == c) h) [
    | inl e ↦ inr (inl (sym (eqb-true 93 c e)))
    | inr e ↦ inr (inr (sym (eqb-true 125 c e)))
  ]
]
  where
    swapped : (c : ℕ) → is_one_of (codes ",]}") c ≡ true → (44 == c || (93 == c || 125 == c)) ≡ true
    swapped c h = grind (arith, h)

-- none of them is `:`
pub no_colon_end : (c : ℕ) → ends_part c ≡ true → c ≢ 58
no_colon_end c h e = false≢true (ap ends_part (sym e) ∙ h)

pub colon_byte : (text : List ℕ) (i e : ℕ) → has_colon text i e ≡ true → at text (next text e) ≡ 58
colon_byte text i e h = eqb-true (at text (next text e)) 58 (and_parts (at text (next text e) == 58) _ h).0

-- before the next part, or the bracket that closes, a part ends
pub after_ends : (text : List ℕ) (close i k : ℕ) → ends_part close ≡ true → part_after text close i ≡ Some k
    → ends_part (at text i) ≡ true
after_ends text close i k closes h = by_close (at text i == close) refl h
  where
    by_comma : (b : Bool) → (at text i == 44) ≡ b → (if b then Some (next text (suc i)) else None) ≡ Some k
        → ends_part (at text i) ≡ true
    by_comma true e f = ap ends_part (eqb-true (at text i) 44 e)
    by_comma false e f = absurd (no_some k f)

    by_close : (b : Bool) → (at text i == close) ≡ b
        → (if b then Some i else if at text i == 44 then Some (next text (suc i)) else None) ≡ Some k
        → ends_part (at text i) ≡ true
    by_close true e f = ap ends_part (eqb-true (at text i) close e) ∙ closes
    by_close false e f = by_comma (at text i == 44) refl f

-- one value
no_node_end : (text : List ℕ) (d i j : ℕ) (n : Node) → FlowNode text d i j n → ends_part (at text i) ≡ true → ⊥
no_node_end text d i j n x h = elim (end_bytes (at text i) h) [
  | inl e ↦ flow_not text 44 refl x e
  | inr f ↦ elim f [ inl e ↦ flow_not text 93 refl x e | inr e ↦ flow_not text 125 refl x e ]
]

pub one_value : (text : List ℕ) (d e i j k : ℕ) (m n : Node) → FlowValue text d i j m → FlowValue text e i k n → j ≡ k
one_value text d e i j k m n (a_flow_value x) (a_flow_value y) = (one_node text d e i j k m n x y).0
one_value text d e i j k m n (a_flow_value x) (no_flow_value ends) = absurd (no_node_end text d i j m x ends)
one_value text d e i j k m n (no_flow_value ends) (a_flow_value y) = absurd (no_node_end text e i k n y ends)
one_value text d e i j k m n (no_flow_value a) (no_flow_value b) = refl

-- one item: a node behind which no `:` stands
pub single_only : (text : List ℕ) (d e i j k : ℕ) (m n : Node) → FlowNode text e i k n → at text (next text k) ≢ 58
    → FlowItem text d i j m → ends_part (at text (next text j)) ≡ true → j ≡ k
single_only text d e i j k m n y other (a_single x) ends = (one_node text d e i j k m n x y).0
single_only text d e i j k m n y other (a_pair {d = c} none (key_and_value {k = q} {m = z} x colon v)) ends =
    let same = (one_node text c e i q k z n x y).0 in
    absurd (other (ap (λ p. at text (next text p)) (sym same) ∙ colon_byte text i q colon))

-- or a pair
pub pair_only : (text : List ℕ) (d e f i j k q : ℕ) (m n v : Node) → FlowNode text e i q n → has_colon text i q ≡ true
    → FlowValue text f (next text (suc (next text q))) k v → FlowItem text d i j m
    → ends_part (at text (next text j)) ≡ true → j ≡ k
pair_only text d e f i j k q m n v y colon w (a_single x) ends =
    let same = (one_node text d e i j q m n x y).0 in
    absurd (no_colon_end (at text (next text j)) ends
    (ap (λ p. at text (next text p)) same ∙ colon_byte text i q colon))
pair_only text d e f i j k q m n v y colon w (a_pair {d = c} none (key_and_value {k = r} {m = z} {n = u} x other t)) ends =
    let same = (one_node text c e i r q z n x y).0 in
    one_value text c f (next text (suc (next text q))) j k u v
    (subst (λ p. FlowValue text c (next text (suc (next text p))) j u) same t) w

-- one entry: a key alone, behind which no `:` stands
pub alone_only : (text : List ℕ) (d e i j k : ℕ) (l m n : Node) → FlowNode text e i k n → at text (next text k) ≢ 58
    → FlowEntry text d i j l m → ends_part (at text (next text j)) ≡ true → j ≡ k
alone_only text d e i j k l m n y other (flow_key_alone x) ends = (one_node text d e i j k l n x y).0
alone_only text d e i j k l m n y other (whole_entry (key_and_value {k = q} x colon v)) ends =
    let same = (one_node text d e i q k l n x y).0 in
    absurd (other (ap (λ p. at text (next text p)) (sym same) ∙ colon_byte text i q colon))

-- or a pair
pub whole_only : (text : List ℕ) (d e f i j k q : ℕ) (l m n v : Node) → FlowNode text e i q n
    → has_colon text i q ≡ true → FlowValue text f (next text (suc (next text q))) k v → FlowEntry text d i j l m
    → ends_part (at text (next text j)) ≡ true → j ≡ k
whole_only text d e f i j k q l m n v y colon w (flow_key_alone x) ends =
    let same = (one_node text d e i j q l n x y).0 in
    absurd (no_colon_end (at text (next text j)) ends
    (ap (λ p. at text (next text p)) same ∙ colon_byte text i q colon))
whole_only text d e f i j k q l m n v y colon w (whole_entry (key_and_value {k = r} x other t)) ends =
    let same = (one_node text d e i r q l n x y).0 in
    one_value text d f (next text (suc (next text q))) j k m v
    (subst (λ p. FlowValue text d (next text (suc (next text p))) j m) same t) w

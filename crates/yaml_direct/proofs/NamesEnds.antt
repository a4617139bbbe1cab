-- What stands behind names.
use Rattle.std.proofs.Common.{ℕ, suc, ◌+◌, ◌-◌, ◌<◌, ◌≡◌, ◌≢◌, ◌⊎◌, ◌==◌, ◌&&◌, ◌||◌, Bool, true, false, List, Some}
use Rattle.std.proofs.Common.{refl, sym, ap, ◌∙◌, arith, inl, inr, drop, length}
use Rattle.std.proofs.lemmas.Bool.{and_parts, cases_Bool, eqb-true, false≢true, false_from_ne_true}
use Rattle.std.proofs.lemmas.Bool.{leb-true, or_cases, or_from}
use Rattle.std.specs.Prelude.{is_none, nat_eq, nat_le}
use Rattle.yaml_direct.proofs.BracketNothing.{parts_byte}
use Rattle.yaml_grammar.specs.Bytes.{at, column, is_gap, is_over, parts_documents}
use Rattle.yaml_grammar.specs.Gaps.{before, gap, next}
use Rattle.yaml_grammar.specs.Names.{Handle, Names, count_while, ends_name, ends_tag, handle_of, is_name_byte}
use Rattle.yaml_grammar.specs.Names.{is_tag_byte, is_whole, name_end, names_at, one_name, opening_size}
use Rattle.yaml_grammar.specs.Names.{tag_at, tag_end, unnamed}
use Rattle.yaml_reading.proofs.Options.{map_some, pair_is, then_some}
use Rattle.yaml_direct.proofs.NamesLines.{TagBy, end_of, taken}

-- neither `-` nor `.`
abbrev pub is_dash : ℕ → Bool
is_dash c = c == 45 || c == 46

no_name_dash : (c : ℕ) (g : Bool) → is_dash c ≡ true → (ends_name true c || (c == 58 && g)) ≡ true → ⊥
no_name_dash c g d h = elim (or_cases (c == 45) (c == 46) d) [
  | inl e ↦ false≢true (ap (λ x. ends_name true x || (x == 58 && g)) (sym (eqb-true c 45 e)) ∙ h)
  | inr e ↦ false≢true (ap (λ x. ends_name true x || (x == 58 && g)) (sym (eqb-true c 46 e)) ∙ h)
]

no_tag_dash : (c : ℕ) → is_dash c ≡ true → ends_tag true c ≡ true → ⊥
no_tag_dash c d h = elim (or_cases (c == 45) (c == 46) d) [
  | inl e ↦ false≢true (ap (ends_tag true) (sym (eqb-true c 45 e)) ∙ h)
  | inr e ↦ false≢true (ap (ends_tag true) (sym (eqb-true c 46 e)) ∙ h)
]

some_is : (n p : ℕ) → Some n ≡ Some p → n ≡ p
some_is n p h = cc

name_dash : (text : List ℕ) (i p : ℕ) → name_end text true i ≡ Some p → is_dash (at text p) ≡ true → ⊥
name_dash text i p h d =
    let stop = i + count_while is_name_byte (drop i text) in
    let t = taken _ (Some stop) p h in
    let same = some_is stop p t.1 in
    let ends = (and_parts _ _ t.0).1 in
    no_name_dash (at text stop) (is_gap (at text (stop + 1))) (ap (λ k. is_dash (at text k)) same ∙ d) ends

tag_by : (text : List ℕ) (i p : ℕ) (t : List ℕ) (h : Handle) → TagBy text true i h ≡ Some (t, p)
    → is_dash (at text p) ≡ true → ⊥
tag_by text i p t h x d =
    let start = i + opening_size h in
    let stop = start + count_while (is_tag_byte (is_whole h)) (drop start text) in
    let end = tag_end h stop in
    let parts = taken _ _ (t, p) x in
    let same = end_of _ end p t parts.1 in
    let ends = (and_parts _ _ (and_parts _ _ parts.0).1).1 in
    no_tag_dash (at text end) (ap (λ k. is_dash (at text k)) (sym same) ∙ d) ends

one_dash : (text : List ℕ) (names ms : Names) (i p : ℕ) → one_name text true (names, i) ≡ Some (ms, p)
    → (p ≡ i) ⊎ (is_dash (at text p) ≡ false)
one_dash text names ms i p h =
    let place = i + count_while (nat_eq 32) (drop i text) in
    elim (cases_Bool (at text place == 38 && is_none names.anchor)) [
      | inl anchor ↦
          let m = map_some (name_end text true (suc place)) _ (ms, p) (rw anchor at h) in
          let end : m.0 ≡ p = ap (λ x. x.1) m.2 in
          inr (false_from_ne_true _ (λ d. name_dash text (suc place) m.0 m.1 (ap (λ k. is_dash (at text k)) end ∙ d)))
      | inr no_anchor ↦ elim (cases_Bool (at text place == 33 && is_none names.tag)) [
        | inl tag ↦
            let m = map_some (tag_at text true place) _ (ms, p) (rw (no_anchor, tag) at h) in
            let end : m.0.1 ≡ p = ap (λ x. x.1) m.2 in
            inr (false_from_ne_true _ (λ d. tag_by text place m.0.1 m.0.0 (handle_of (at text (suc place))) m.1
            (ap (λ k. is_dash (at text k)) end ∙ d)))
        | inr none ↦ inl (sym (pair_is names ms i p (rw (no_anchor, none) at h)).1)
      ]
    ]

names_dash : (text : List ℕ) (i p : ℕ) (names : Names) → names_at text true i ≡ Some (names, p) → p ≢ i
    → is_dash (at text p) ≡ false
names_dash text i p names h other =
    let t = then_some (one_name text true (unnamed, i)) (one_name text true) (names, p) h in
    elim (one_dash text t.0.0 names t.0.1 p t.2) [
      | inr dark ↦ dark
      | inl same ↦ elim (one_dash text unnamed t.0.0 i t.0.1 t.1) [
        | inl here ↦ absurd (other (same ∙ here))
        | inr dark ↦ ap (λ k. is_dash (at text k)) same ∙ dark
      ]
    ]

-- so no document is over at the token behind them in their line
pub names_over : (text : List ℕ) (i p k : ℕ) (names : Names) → names_at text true i ≡ Some (names, p) → p ≢ i
    → k ≡ next text p → k < length text → column text k ≡ column text p + (k - p) → is_over text k ≡ false
names_over text i p k names h other there inside col =
    let far : next text p ≡ p + (gap (before text p) (drop p text)).0 = refl in
    or_from (nat_le (length text) k) _ (not_past (length text) k inside)
    (false_from_ne_true (parts_documents text k) (λ parted.
    let both = and_parts (column text k == 0) _ parted in
    let first = eqb-true (column text k) 0 both.0 in
    let same : k ≡ p = omega (arith, first, col, there, far) in
    false≢true (sym (names_dash text i p names h other) ∙ (ap (λ q. is_dash (at text q)) (sym same)
    ∙ dash_at k parted))))
  where
    not_past : (n k : ℕ) → k < n → nat_le n k ≡ false
    not_past n k less = false_from_ne_true (nat_le n k) (λ e. omega (arith, leb-true n k e, less))

    dash_at : (k : ℕ) → parts_documents text k ≡ true → is_dash (at text k) ≡ true
    dash_at k parted = elim (parts_byte text k parted) [ inl e ↦ ap is_dash e | inr e ↦ ap is_dash e ]

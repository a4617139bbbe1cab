-- Where plain text begins, by its first byte.
use Rattle.std.proofs.Common.{ℕ, ◌+◌, ◌≡◌, ◌==◌, ◌&&◌, ◌||◌, not, Bool, true, false, List, refl, sym, ap, ap₂, ◌∙◌}
use Rattle.std.proofs.Common.{arith, inl, inr, codes, nat_le, nat_lt}
use Rattle.std.proofs.lemmas.Bool.{eqb-true, ne_eqb, or_cases}
use Rattle.yaml_direct.specs.Bytes as code
use Rattle.yaml_direct.proofs.TextLaws.{bracket_same, gap_same}
use Rattle.yaml_grammar.specs.Bytes.{at, is_bracket, is_gap, is_indicator, is_one_of, is_text, parts_documents}
use Rattle.yaml_grammar.specs.Plain.{begins_plain, is_safe}

abbrev Begins : (flow : Bool) → (c d : ℕ) → (parts' : Bool) → Bool
Begins flow c d p =
    not (is_gap c) && (not (is_indicator c) && (not p && (not (is_one_of (codes "-?:") c) || is_safe flow c d)))

begins_as : (text : List ℕ) (flow : Bool) (i c : ℕ) → at text i ≡ c → parts_documents text i ≡ false
    → begins_plain text flow i ≡ Begins flow c (at text (i + 1)) false
begins_as text flow i c e p = ap₂ (λ x y. Begins flow x (at text (i + 1)) y) e p

or_false : (x : Bool) → (x || false) ≡ x
or_false true = refl
or_false false = refl

dash_safe : (flow g r b : Bool) → g ≡ false → r ≡ (flow && b) → not r ≡ (not g && not (flow && (b || false)))
dash_safe flow g r b e f =
    ap not (f ∙ ap (λ x. flow && x) (sym (or_false b)))
    ∙ ap (λ x. not x && not (flow && (b || false))) (sym e)

pub dash_open : (text : List ℕ) (flow : Bool) (i : ℕ) (r : Bool) → is_text text ≡ true → at text i ≡ 45
    → parts_documents text i ≡ false → code.is_gap text (i + 1) ≡ false
    → r ≡ (flow && code.is_bracket (at text (i + 1))) → not r ≡ begins_plain text flow i
dash_open text flow i r h e p gap f =
    let d = at text (i + 1) in
    dash_safe flow (is_gap d) r (is_bracket d) (sym (gap_same text (i + 1) h) ∙ gap)
    (f ∙ ap (λ x. flow && x) (bracket_same d))
    ∙ sym (begins_as text flow i 45 e p)

shut : (g x : Bool) → g ≡ true → false ≡ (not g && x)
shut g x e = sym (ap (λ y. not y && x) e)

pub dash_shut : (text : List ℕ) (flow : Bool) (i : ℕ) (g : Bool) → is_text text ≡ true → at text i ≡ 45
    → parts_documents text i ≡ false → g ≡ code.is_gap text (i + 1) → g ≡ true → not g ≡ begins_plain text flow i
dash_shut text flow i g h e p f gap =
    let d = at text (i + 1) in
    ap not gap
    ∙ shut (is_gap d) (not (flow && (is_bracket d || false))) (sym (gap_same text (i + 1) h) ∙ (sym f ∙ gap))
    ∙ sym (begins_as text flow i 45 e p)

mark_open : (text : List ℕ) (i c : ℕ) (g : Bool) → is_text text ≡ true → at text i ≡ c
    → parts_documents text i ≡ false → g ≡ code.is_gap text (i + 1)
    → Begins false c (at text (i + 1)) false ≡ (not (is_gap (at text (i + 1))) && true)
    → not g ≡ begins_plain text false i
mark_open text i c g h e p f safe =
    ap not (f ∙ gap_same text (i + 1) h) ∙ sym (and_true (not (is_gap (at text (i + 1))))) ∙ sym safe
    ∙ sym (begins_as text false i c e p)
  where
    and_true : (x : Bool) → (x && true) ≡ x
    and_true true = refl
    and_true false = refl

pub marks_open : (text : List ℕ) (flow : Bool) (i : ℕ) (g : Bool) → is_text text ≡ true
    → (at text i == 63 || at text i == 58) ≡ true → flow ≡ false → parts_documents text i ≡ false
    → g ≡ code.is_gap text (i + 1) → not g ≡ begins_plain text flow i
marks_open text flow i g h e f p gap =
    elim (or_cases (at text i == 63) (at text i == 58) e) [
      | inl question ↦ mark_open text i 63 g h (eqb-true (at text i) 63 question) p gap refl
      | inr colon ↦ mark_open text i 58 g h (eqb-true (at text i) 58 colon) p gap refl
    ]
    ∙ ap (λ x. begins_plain text x i) (sym f)

above : (c : ℕ) → nat_lt 32 c ≡ not (nat_le c 32)
above c = grind arith

other_safe : (g k m s : Bool) → k ≡ false → m ≡ false → not g ≡ (not g && (not k && (true && (not m || s))))
other_safe true k m s e f = refl
other_safe false k m s e f = rw (e, f) refl

pub other_begins : (text : List ℕ) (flow : Bool) (i c : ℕ) → is_text text ≡ true → c ≡ at text i
    → parts_documents text i ≡ false → is_indicator c ≡ false → is_one_of (codes "-?:") c ≡ false
    → nat_lt 32 c ≡ begins_plain text flow i
other_begins text flow i c h e p other mark =
    above c ∙ ap (λ x. not (nat_le x 32)) e ∙ ap not (gap_same text i h) ∙ ap (λ x. not (is_gap x)) (sym e)
    ∙ other_safe (is_gap c) (is_indicator c) (is_one_of (codes "-?:") c) (is_safe flow c (at text (i + 1))) other mark
    ∙ sym (begins_as text flow i c (sym e) p)

pub no_indicator : (c : ℕ) → (c ≡ 44 → ⊥) → (c ≡ 91 → ⊥) → (c ≡ 93 → ⊥) → (c ≡ 123 → ⊥) → (c ≡ 125 → ⊥) → (c ≡ 35 → ⊥) → (c ≡ 38 → ⊥) → (c ≡ 42 → ⊥) → (c ≡ 33 → ⊥) → (c ≡ 124 → ⊥) → (c ≡ 62 → ⊥) → (c ≡ 39 → ⊥) → (c ≡ 34 → ⊥) → (c ≡ 37 → ⊥) → (c ≡ 64 → ⊥) → (c ≡ 96 → ⊥)
    → is_indicator c ≡ false
no_indicator c n44 n91 n93 n123 n125 n35 n38 n42 n33 n124 n62 n39 n34 n37 n64 n96 =
    rw (
      ne_eqb c 44 n44,
      ne_eqb c 91 n91,
      ne_eqb c 93 n93,
      ne_eqb c 123 n123,
      ne_eqb c 125 n125,
      ne_eqb c 35 n35,
      ne_eqb c 38 n38,
      ne_eqb c 42 n42,
      ne_eqb c 33 n33,
      ne_eqb c 124 n124,
      ne_eqb c 62 n62,
      ne_eqb c 39 n39,
      ne_eqb c 34 n34,
      ne_eqb c 37 n37,
      ne_eqb c 64 n64,
      ne_eqb c 96 n96,
    ) refl

pub no_mark : (c : ℕ) → (c ≡ 45 → ⊥) → (c ≡ 63 → ⊥) → (c ≡ 58 → ⊥) → is_one_of (codes "-?:") c ≡ false
no_mark c n45 n63 n58 = rw (ne_eqb c 45 n45, ne_eqb c 63 n63, ne_eqb c 58 n58) refl

-- The steps of a reader between documents.
use Rattle.std.proofs.Common.{ℕ, ◌+◌, ◌-◌, ◌<◌, ◌≤◌, ◌≡◌, ◌≢◌, ◌==◌, ◌&&◌, ◌||◌, Bool, true, false, List, [], Option, Some}
use Rattle.std.proofs.Common.{refl, sym, subst, ap, ◌∙◌, arith, inl, inr, drop, length}
use Rattle.std.proofs.lemmas.Bool.{and_from, and_left, and_parts, and_right, cases_Bool, cases_eq, cases_lt, eq-eqb}
use Rattle.std.proofs.lemmas.Bool.{eqb-true, false≢true, lt-leb, ne_eqb, or_left}
use Rattle.std.proofs.lemmas.List.{drop_all, get_or-drop}
use Rattle.std.specs.List.{starts_with}
use Rattle.std.specs.Prelude.{None, codes, if◌then◌else◌, nat_eq}
use Rattle.yaml_direct.specs.Tokens.{IsAmidLine, IsAtNext, IsCounted}
use Rattle.yaml_direct.specs.declared.reader.Reader.{Reader}
use Rattle.yaml_direct.proofs.CountedLaws.{amid_here}
use Rattle.yaml_direct.proofs.ReaderLaws.{ends_by_end}
use Rattle.yaml_grammar.specs.Bytes.{at, column, is_over, is_triple}
use Rattle.yaml_grammar.specs.Documents.{begins_document, directive_end, ends_document}
use Rattle.yaml_grammar.specs.Gaps.{breaks, ends_its_line}
use Rattle.yaml_grammar.specs.Names.{count_while}

-- neither `---` nor `...` begins the line here
pub goes_on_here : (text : List ℕ) (i : ℕ) → i < length text → begins_document text i ≡ false
    → ends_document text i ≡ false → is_over text i ≡ false
goes_on_here text i inside begins ends =
    rw (lt-leb (length text) i inside) (by_parts (column text i == 0) (is_triple 45 (drop i text)) (is_triple 46 (drop i text)) begins ends)
  where
    by_parts : (a b c : Bool) → (a && b) ≡ false → (a && c) ≡ false → (a && (b || c)) ≡ false
    by_parts false b c e f = refl
    by_parts true false c e f = f
    by_parts true true c e f = absurd (false≢true (sym e))

-- where the document ends behind `---`, no token follows in its line
pub over_ends : (old new : Reader) (from to : ℕ) (b : Bool) → IsAtNext old new from to → IsAmidLine old from → from ≤ to
    → (b ≡ true → to ≢ new.line_start → to ≡ length old.text.now) → b ≡ true → ends_its_line old.text.now from ≡ true
over_ends old new from to b n a low ends is =
    elim (cases_Bool (breaks old.text.now from)) [
      | inl broken ↦ or_left (breaks old.text.now from) _ broken
      | inr whole ↦ ends_by_end old new from to n (ends is (λ e. omega (arith, e, n.start whole, a.behind, low)))
    ]

-- three of a byte begin a line, by the columns that the reader counts
pub triple_here : (text : List ℕ) (c : ℕ) (r : Reader) (i : ℕ) (b : Bool) → r.text.now ≡ text → IsCounted r i
    → i ≡ r.line_start → (b ≡ true → i + 3 ≤ length text) → b ≡ is_triple c (drop i text) → b ≡ true
    → (column text i == 0 && is_triple c (drop i text)) ≡ true
triple_here text c r i b same counted there within test is =
    let inside : i < length text = omega (arith, within is) in
    let first : column text i ≡ i - r.line_start =
    subst (λ t. i < length t → column t i ≡ i - r.line_start) same counted.column inside in
    and_from (column text i == 0) (is_triple c (drop i text)) (eq-eqb (column text i) 0 (omega (arith, first, there)))
    (sym test ∙ is)

pub no_triple_here : (text : List ℕ) (c : ℕ) (r : Reader) (i : ℕ) (b : Bool) → is_triple c [] ≡ false → r.text.now ≡ text
    → IsCounted r i → r.line_start ≤ i → b ≡ is_triple c (drop i text) → (i ≡ r.line_start → b ≡ false)
    → (column text i == 0 && is_triple c (drop i text)) ≡ false
no_triple_here text c r i b empty same counted low test away =
    elim (cases_lt i (length text)) [
      | inr over ↦ and_right (column text i == 0) _ (ap (is_triple c) (drop_all i text over) ∙ empty)
      | inl inside ↦
          let first : column text i ≡ i - r.line_start =
          subst (λ t. i < length t → column t i ≡ i - r.line_start) same counted.column inside in
          elim (cases_eq i r.line_start) [
            | inl there ↦ and_right (column text i == 0) _ (sym test ∙ away there)
            | inr other ↦ and_left (column text i == 0) _ (ne_eqb (column text i) 0 (λ z. omega (arith, z, first, low, other)))
          ]
    ]

pub amid_dashes : (r : Reader) (i : ℕ) → r.line_start ≤ i → is_triple 45 (drop i r.text.now) ≡ true
    → IsAmidLine r (i + 3)
amid_dashes r i low t =
    let first = and_parts (at (drop i r.text.now) 0 == 45) _ t in
    let second = and_parts (at (drop i r.text.now) 1 == 45) _ first.1 in
    let third = and_parts (at (drop i r.text.now) 2 == 45) _ second.1 in
    let byte : at r.text.now (i + 2) ≡ 45 = sym (get_or-drop i r.text.now 2 0) ∙ eqb-true (at (drop i r.text.now) 2) 45 third.0 in
    let there : i + 2 + 1 ≡ i + 3 = omega arith in
    subst (λ k. IsAmidLine r k) there (amid_here r (i + 2) (omega (arith, low)) (omega (arith, byte)) (λ e. omega (arith, e, byte))
    (λ e. omega (arith, e, byte)))

-- columns are counted on where nothing but the tape changes
pub counted_same : (a b : Reader) (i : ℕ) → b.text.now ≡ a.text.now → b.line_start ≡ a.line_start → IsCounted a i
    → IsCounted b i
counted_same a b i same line c = record {
  within = subst (λ t. i ≤ length t) (sym same) c.within;
  column = subst (λ t. i < length t → column t i ≡ i - b.line_start) (sym same)
      (subst (λ n. i < length a.text.now → column a.text.now i ≡ i - n) (sym line) c.column);
}

-- a directive
pub directive_here : (text : List ℕ) (i n : ℕ) → column text i ≡ 0
    → starts_with nat_eq (drop i text) (codes "%YAML ") ≡ true
    → n ≡ i + 6 + count_while (nat_eq 32) (drop (i + 6) text) → at text n ≡ 49 → at text (n + 1) ≡ 46
    → (at text (n + 2) == 49 || at text (n + 2) == 50) ≡ true → directive_end text i ≡ Some (n + 3)
directive_here text i n first begins there one dot digit =
    ap by_number (sym there) ∙ by_tests (column text i == 0) (starts_with nat_eq (drop i text) (codes "%YAML "))
    (at text n == 49) (at text (n + 1) == 46) (at text (n + 2) == 49 || at text (n + 2) == 50)
    (eq-eqb (column text i) 0 first) begins (eq-eqb (at text n) 49 one) (eq-eqb (at text (n + 1)) 46 dot) digit
  where
    by_number : ℕ → Option ℕ
    by_number n =
        if column text i == 0 && (starts_with nat_eq (drop i text) (codes "%YAML ") && (at text n == 49
        && (at text (n + 1) == 46 && (at text (n + 2) == 49 || at text (n + 2) == 50))))
        then Some (n + 3) else None

    by_tests : (a b c d e : Bool) → a ≡ true → b ≡ true → c ≡ true → d ≡ true → e ≡ true
        → ◌≡◌ {A = Option ℕ} (if a && (b && (c && (d && e))) then Some (n + 3) else None) (Some (n + 3))
    by_tests a b c d e p q r s t = rw (p, q, r, s, t) refl

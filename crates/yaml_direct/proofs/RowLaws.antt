-- The lines of a block of text, one by one.
use Rattle.std.proofs.Common.{ℕ, suc, ◌+◌, ◌-◌, ◌<◌, ◌≤◌, ◌≡◌, Bool}
use Rattle.std.proofs.Common.{true, false}
use Rattle.std.proofs.Common.{List, [], ◌∷◌, ◌++◌, refl, sym, ap, ap₂, ◌∙◌, arith, drop, length, append_assoc}
use Rattle.std.proofs.Common.{slice_range}
use Rattle.std.proofs.Common.{nat_le}
use Rattle.std.proofs.lemmas.Bool.{eq-eqb, le-leb}
use Rattle.yaml_direct.specs.BlockRows.{AreEmpty, IsIndented, rows_behind, rows_from}
use Rattle.yaml_direct.specs.Bytes.{AreBlanks, at}
use Rattle.yaml_direct.proofs.BlockLines.{first_line, line_length, line_spaces, lines_some}
use Rattle.yaml_grammar.specs.BlockTexts.{Chomping, Row, is_last, is_spaces, lines_of, rows}
use Rattle.yaml_grammar.specs.BlockTexts.{spaces}

pub rows_twice : (a b : ℕ) (x y : List ℕ) (r : ℕ × List ℕ)
    → rows_behind a x (rows_behind b y r) ≡ rows_behind (a + b) (x ++ y) r
rows_twice a b x y r =
    let sum : a + (b + r.0) ≡ a + b + r.0 = omega arith in
    ap₂ (λ n s. (n, s)) sum (sym (append_assoc x y r.1))

-- an empty line
empty_by : (folds : Bool) (ch : Chomping) (indent : ℕ) (last : Row) (empty : ℕ) (l : List ℕ) (ls : List (List ℕ))
    → is_spaces l ≡ true → nat_le (length l) indent ≡ true → is_last ls ≡ false
    → rows folds ch indent last empty (l ∷ ls) ≡ (
      suc (length l) + (rows folds ch indent last (suc empty) ls).0,
      [] ++ (rows folds ch indent last (suc empty) ls).1,
    )
empty_by folds ch indent last empty l ls e f g = rw (e, f, g) refl

pub empty_row : (text : List ℕ) (indent i p : ℕ) (folds : Bool) (ch : Chomping) (last : Row) (empty : ℕ) → i ≤ p
    → p < length text → AreBlanks text i p → p - i ≤ indent → at text p ≡ 10
    → rows_from text folds ch indent last empty i
    ≡ rows_behind (p + 1 - i) [] (rows_from text folds ch indent last (empty + 1) (p + 1))
empty_row text indent i p folds ch last empty low within blank few feed =
    let line = slice_range text i p in
    let size = line_length text i p low (omega (arith, within)) in
    let all = line_spaces text i p p low (omega arith) (omega (arith, within)) blank (λ e. omega (arith, e, feed)) in
    let one : suc p ≡ p + 1 = omega arith in
    let more : suc empty ≡ empty + 1 = omega arith in
    let count : suc (length line) ≡ p + 1 - i = omega (arith, size, low) in
    ap (rows folds ch indent last empty)
    (first_line text i p low (omega (arith, within)) (λ k from to e. omega (arith, e, blank k from to)) feed)
    ∙ empty_by folds ch indent last empty line (lines_of (drop (suc p) text))
    (eq-eqb (spaces line) (length line) (all ∙ sym size))
    (le-leb (length line) indent (omega (arith, size, few))) (lines_some (drop (suc p) text))
    ∙ ap (λ n. rows_behind n [] (rows_from text folds ch indent last (suc empty) (suc p))) count
    ∙ ap₂ (λ e k. rows_behind (p + 1 - i) [] (rows_from text folds ch indent last e k)) more one

pub empty_none : (text : List ℕ) (indent i : ℕ) → AreEmpty text indent 0 i i
empty_none text indent i = record {
  forward = omega arith;
  rows = λ folds ch last empty.
      let none : 0 ≡ i - i = omega arith in
      let same : empty ≡ empty + 0 = omega arith in
      zero_more (rows_from text folds ch indent last empty i)
      ∙ ap₂ (λ n e. rows_behind n [] (rows_from text folds ch indent last e i)) none same;
}
  where
    zero_more : (r : ℕ × List ℕ) → r ≡ rows_behind 0 [] r
    zero_more r = let same : r.0 ≡ 0 + r.0 = omega arith in ap (λ n. (n, r.1)) same

-- and one more
pub empty_more : (text : List ℕ) (indent count i j p : ℕ) → AreEmpty text indent count i j → IsIndented text indent j p
    → p < length text → at text p ≡ 10 → AreEmpty text indent (count + 1) i (p + 1)
empty_more text indent count i j p e d within feed = record {
  forward = omega (arith, e.forward, d.forward);
  rows = λ folds ch last empty.
      let rest = rows_from text folds ch indent last (empty + (count + 1)) (p + 1) in
      let sum : empty + count + 1 ≡ empty + (count + 1) = omega arith in
      let size : j - i + (p + 1 - j) ≡ p + 1 - i = omega (arith, e.forward, d.forward) in
      e.rows folds ch last empty
      ∙ ap (rows_behind (j - i) []) (empty_row text indent j p folds ch last
      (empty + count) d.forward within d.blanks d.few feed
      ∙ ap (λ n. rows_behind (p + 1 - j) [] (rows_from text folds ch indent last n (p + 1))) sum)
      ∙ rows_twice (j - i) (p + 1 - j) [] [] rest
      ∙ ap (λ n. rows_behind n [] rest) size;
}

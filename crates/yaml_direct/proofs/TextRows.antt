-- A line with text in a block, and the end of the block.
use Rattle.std.proofs.Common.{ℕ, zero, suc, ◌+◌, ◌-◌, ◌<◌, ◌≤◌, ◌≡◌, ◌≢◌, ◌⊎◌, ◌&&◌, ◌||◌, not, inl, inr, Bool}
use Rattle.std.proofs.Common.{true, false}
use Rattle.std.proofs.Common.{List, [], ◌∷◌, ◌++◌, refl, sym, ap, ap₂, ◌∙◌, arith, drop, length, nat_le}
use Rattle.std.proofs.Common.{nat_lt, slice_range, take}
use Rattle.std.proofs.lemmas.Bool.{and_left, and_right, cases_lt, le-leb, le-ltb, lt-leb, lt-ltb, or_left}
use Rattle.std.proofs.lemmas.Bool.{or_right}
use Rattle.std.proofs.lemmas.List.{drop-drop, drop-take}
use Rattle.yaml_direct.specs.BlockRows.{IsIndented, rows_behind, rows_from}
use Rattle.yaml_direct.specs.Bytes.{AreBlanks, at}
use Rattle.yaml_direct.specs.Gaps.{InLine}
use Rattle.yaml_direct.proofs.BlockLines.{first_line, last_line, line_length, line_of, line_spaces, lines_some}
use Rattle.yaml_direct.proofs.DetectLaws.{lines_at, not_spaces, spaces_within}
use Rattle.yaml_direct.proofs.PlainRest.{slice_more}
use Rattle.yaml_grammar.specs.BlockTexts.{Chomping, Row, chomped, is_last, is_spaces, joined, lines_of, row_of, rows}
use Rattle.yaml_grammar.specs.BlockTexts.{spaces}

-- what a line with text says
abbrev pub said_row : (folds : Bool) → Row → (empty : ℕ) → List ℕ → List ℕ
said_row folds last empty content = joined folds last (row_of (at content 0)) empty ++ content

row_by : (folds : Bool) (ch : Chomping) (indent : ℕ) (last : Row) (empty : ℕ) (l : List ℕ) (ls : List (List ℕ))
    → (is_spaces l && (nat_le (length l) indent && not (is_last ls))) ≡ false
    → (nat_lt (spaces l) indent || nat_le (length l) indent) ≡ false → is_last ls ≡ false
    → rows folds ch indent last empty (l ∷ ls)
    ≡ rows_behind (suc (length l)) (said_row folds last empty (drop indent l))
    (rows folds ch indent (row_of (at (drop indent l) 0)) 0 ls)
row_by folds ch indent last empty l ls e f g = rw (e, f, g) refl

last_by : (folds : Bool) (ch : Chomping) (indent : ℕ) (last : Row) (empty : ℕ) (l : List ℕ) (ls : List (List ℕ))
    → (is_spaces l && (nat_le (length l) indent && not (is_last ls))) ≡ false
    → (nat_lt (spaces l) indent || nat_le (length l) indent) ≡ false → is_last ls ≡ true
    → rows folds ch indent last empty (l ∷ ls) ≡ (length l, said_row folds last empty (drop indent l))
last_by folds ch indent last empty l ls e f g = rw (e, f, g) refl

end_by : (folds : Bool) (ch : Chomping) (indent : ℕ) (last : Row) (empty : ℕ) (l : List ℕ) (ls : List (List ℕ))
    → (is_spaces l && (nat_le (length l) indent && not (is_last ls))) ≡ false
    → (nat_lt (spaces l) indent || nat_le (length l) indent) ≡ true
    → rows folds ch indent last empty (l ∷ ls) ≡ (0, chomped ch last empty)
end_by folds ch indent last empty l ls e f = rw (e, f) refl

-- at least so many spaces begin the line
spaces_by : (text : List ℕ) (p j : ℕ) → p ≤ j → j ≤ length text → (n i : ℕ) → i + n ≡ p → AreBlanks text i p
    → n ≤ spaces (slice_range text i j)
spaces_by text p j high within zero i e blank = omega arith
spaces_by text p j high within (suc n) i e blank =
    let more = spaces_by text p j high within n (suc i) (omega (arith, e)) (λ k low to. blank k (omega
    (arith, low)) to) in
    let all : spaces (slice_range text i j) ≡ suc (spaces (slice_range text (suc i) j)) =
    ap spaces (slice_more text i j (omega (arith, e, high)) (omega (arith, e, high, within))
    ∙ ap (λ c. c ∷ slice_range text (suc i) j) (blank i (omega arith) (omega (arith, e)))) in
    omega (arith, more, all)

-- a line that stands far enough in, and has more than that
record IsRow (text : List ℕ) (indent i p e : ℕ) : Type 0 where
  far : (nat_lt (spaces (slice_range text i e)) indent || nat_le (length (slice_range text i e)) indent) ≡ false
  some : nat_le (length (slice_range text i e)) indent ≡ false
  content : drop indent (slice_range text i e) ≡ slice_range text p e

is_row : (text : List ℕ) (indent i p e : ℕ) → IsIndented text indent i p → p - i ≡ indent → p < e → e ≤ length text
    → IsRow text indent i p e
is_row text indent i p e d deep more within =
    let line = slice_range text i e in
    let all = spaces_by text p e (omega (arith, more)) within (p - i) i (omega (arith, d.forward)) d.blanks in
    let size = line_length text i e (omega (arith, d.forward, more)) within in
    let long : nat_le (length line) indent ≡ false = lt-leb (length line) indent (omega
    (arith, size, deep, more, d.forward)) in
    let parts : e - i ≡ indent + (e - p) = omega (arith, deep, more, d.forward) in
    let there : i + indent ≡ p = omega (arith, deep, d.forward) in
    record {
      far = rw (le-ltb (spaces line) indent (omega (arith, all, deep)), long) refl;
      some = long;
      content = ap (λ n. drop indent (take n (drop i text))) parts ∙ drop-take indent (e - p) (drop i text)
          ∙ ap (take (e - p)) (drop-drop indent i text ∙ ap (λ n. drop n text) there);
    }

no_line_end : (text : List ℕ) (i p e : ℕ) → AreBlanks text i p → InLine text p e → InLine text i e
no_line_end text i p e blank line k low high feed =
    elim (cases_lt k p) [
      | inl less ↦ omega (arith, feed, blank k low less)
      | inr past ↦ line k past high feed
    ]

pub text_row : (text : List ℕ) (indent i p e : ℕ) (folds : Bool) (ch : Chomping) (last : Row) (empty : ℕ)
    → IsIndented text indent i p → p - i ≡ indent → p < e → e ≤ length text → InLine text p e → at text e ≡ 10
    → rows_from text folds ch indent last empty i
    ≡ rows_behind (e + 1 - i) (said_row folds last empty (slice_range text p e))
    (rows_from text folds ch indent (row_of (at (slice_range text p e) 0)) 0 (e + 1))
text_row text indent i p e folds ch last empty d deep more within line feed =
    let l = slice_range text i e in
    let r = is_row text indent i p e d deep more within in
    let size = line_length text i e (omega (arith, d.forward, more)) within in
    let one : suc e ≡ e + 1 = omega arith in
    let count : suc (length l) ≡ e + 1 - i = omega (arith, size, more, d.forward) in
    ap (rows folds ch indent last empty)
    (first_line text i e (omega (arith, d.forward, more)) within (no_line_end text i p e d.blanks line) feed)
    ∙ row_by folds ch indent last empty l (lines_of (drop (suc e) text))
    (and_right (is_spaces l) _ (and_left (nat_le (length l) indent) _ r.some)) r.far (lines_some (drop (suc e) text))
    ∙ ap₂ (λ n k. rows_behind n (said_row folds last empty (drop indent l))
    (rows_from text folds ch indent (row_of (at (drop indent l) 0)) 0 k)) count one
    ∙ ap (λ s. rows_behind (e + 1 - i) (said_row folds last empty s)
    (rows_from text folds ch indent (row_of (at s 0)) 0 (e + 1))) r.content

pub last_row : (text : List ℕ) (indent i p e : ℕ) (folds : Bool) (ch : Chomping) (last : Row) (empty : ℕ)
    → IsIndented text indent i p → p - i ≡ indent → p < e → e ≡ length text → InLine text p e
    → rows_from text folds ch indent last empty i ≡ (e - i, said_row folds last empty (slice_range text p e))
last_row text indent i p e folds ch last empty d deep more over line =
    let l = slice_range text i e in
    let within : e ≤ length text = omega (arith, over) in
    let r = is_row text indent i p e d deep more within in
    let size = line_length text i e (omega (arith, d.forward, more)) within in
    ap (rows folds ch indent last empty)
    (last_line text i e (omega (arith, d.forward, more)) over (no_line_end text i p e d.blanks line))
    ∙ last_by folds ch indent last empty l []
    (and_right (is_spaces l) _ (and_left (nat_le (length l) indent) _ r.some)) r.far refl
    ∙ ap₂ (λ n s. (n, said_row folds last empty s)) size r.content

-- any other line is behind the block
pub end_row : (text : List ℕ) (indent i p : ℕ) (folds : Bool) (ch : Chomping) (last : Row) (empty : ℕ)
    → IsIndented text indent i p → p ≤ length text → at text p ≢ 10 → (length text ≤ p) ⊎ (p - i ≢ indent)
    → rows_from text folds ch indent last empty i ≡ (0, chomped ch last empty)
end_row text indent i p folds ch last empty d within feed why =
    let l = line_of text i (omega (arith, d.forward, within)) in
    let n = lines_at text i l in
    let le = spaces_within text i p within d.blanks l in
    let line = slice_range text i l.end in
    let size = line_length text i l.end l.low l.within in
    ap (rows folds ch indent last empty) n.are
    ∙ elim (cases_lt p l.end) [
      | inr over ↦
          let same : l.end ≡ p = omega (arith, le, over) in
          end_by folds ch indent last empty line n.rest
          (and_right (is_spaces line) _ (and_right (nat_le (length line) indent) _
          (ap not (n.last (λ e. feed (sym (ap (at text) same) ∙ e))))))
          (or_right (nat_lt (spaces line) indent) _ (le-leb (length line) indent (omega (arith, size, same, d.few))))
      | inl more ↦
          let short : p - i ≢ indent = elim why [
            | inl past ↦ absurd (omega (arith, past, more, l.within))
            | inr other ↦ other
          ] in
          let space : at text p ≢ 32 = elim d.ends [ inl deep ↦ absurd (short deep) | inr other ↦ other ] in
          let some = line_spaces text i p l.end d.forward le l.within d.blanks space in
          end_by folds ch indent last empty line n.rest
          (and_left (is_spaces line) _ (not_spaces text i p l.end d.forward more l.within d.blanks space))
          (or_left (nat_lt (spaces line) indent) _ (lt-ltb (spaces line) indent (omega (arith, some, d.few, short))))
    ]

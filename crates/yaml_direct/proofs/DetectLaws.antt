-- How far in a block stands by its first line with text.
use Rattle.std.proofs.Common.{ℕ, suc, ◌+◌, ◌-◌, ◌<◌, ◌≤◌, ◌≡◌, ◌≢◌, ◌&&◌, not, max, inl, inr, true}
use Rattle.std.proofs.Common.{false, List, []}
use Rattle.std.proofs.Common.{◌∷◌, Option, Some, None, refl, sym, ap, ap₂, ◌∙◌, arith, drop, length, slice_range}
use Rattle.std.proofs.lemmas.Bool.{and_left, and_right, cases_eq, cases_lt, eq-eqb, ne_eqb}
use Rattle.std.proofs.lemmas.List.{get_or-drop, get_or-take, get_or_past}
use Rattle.yaml_direct.specs.Bytes.{AreBlanks, at}
use Rattle.yaml_direct.specs.Gaps.{IsLineEnd}
use Rattle.yaml_direct.proofs.BlockLines.{LineOf, first_line, last_line, line_length, line_of, line_spaces, lines_some}
use Rattle.yaml_grammar.specs.BlockTexts.{found_indent, is_last, is_spaces, lines_of, spaces}

empty_by : (w : ℕ) (l : List ℕ) (ls : List (List ℕ)) → is_spaces l ≡ true → is_last ls ≡ false
    → found_indent w (l ∷ ls) ≡ found_indent (max w (length l)) ls
empty_by w l ls e f = rw (e, f) refl

tab_by : (w : ℕ) (l : List ℕ) (ls : List (List ℕ)) → (is_spaces l && not (is_last ls)) ≡ false
    → at l (spaces l) ≡ 9 → ◌≡◌ {A = Option ℕ} (found_indent w (l ∷ ls)) None
tab_by w l ls e f = rw (e, f) refl

text_by : (w : ℕ) (l : List ℕ) (ls : List (List ℕ)) → (is_spaces l && not (is_last ls)) ≡ false
    → at l (spaces l) ≢ 9 → ◌≡◌ {A = Option ℕ} (found_indent w (l ∷ ls)) (Some (max w (spaces l)))
text_by w l ls e f = rw (e, ne_eqb (at l (spaces l)) 9 f) refl

-- a line of spaces
pub empty_line : (text : List ℕ) (i p w : ℕ) → i ≤ p → p < length text → AreBlanks text i p → at text p ≡ 10
    → found_indent w (lines_of (drop i text)) ≡ found_indent (max w (p - i)) (lines_of (drop (p + 1) text))
empty_line text i p w low within blank feed =
    let line = slice_range text i p in
    let size = line_length text i p low (omega (arith, within)) in
    let all = line_spaces text i p p low (omega arith) (omega (arith, within)) blank (λ e. omega (arith, e, feed)) in
    let one : suc p ≡ p + 1 = omega arith in
    ap (found_indent w) (first_line text i p low (omega (arith, within)) (λ k from to e. omega
    (arith, e, blank k from to)) feed)
    ∙ empty_by w line (lines_of (drop (suc p) text)) (eq-eqb (spaces line) (length line) (all ∙ sym size))
    (lines_some (drop (suc p) text))
    ∙ ap₂ (λ n k. found_indent (max w n) (lines_of (drop k text))) size one

-- the line from a place on, and the lines behind it
pub record Lines (text : List ℕ) (i end : ℕ) : Type 0 where
  pub rest : List (List ℕ)
  pub are : lines_of (drop i text) ≡ slice_range text i end ∷ rest
  pub last : at text end ≢ 10 → is_last rest ≡ true

past_end : (text : List ℕ) (j : ℕ) → j ≤ length text → at text j ≢ 10 → IsLineEnd text j → j ≡ length text
past_end text j within other (inl feed) = absurd (other feed)
past_end text j within other (inr past) = omega (arith, past, within)

pub lines_at : (text : List ℕ) (i : ℕ) → (l : LineOf text i) → Lines text i l.end
lines_at text i l =
    elim (cases_eq (at text l.end) 10) [
      | inl feed ↦ record {
        rest = lines_of (drop (suc l.end) text);
        are = first_line text i l.end l.low l.within l.line feed;
        last = λ other. absurd (other feed);
      }
      | inr other ↦ record {
        rest = [];
        are = last_line text i l.end l.low (past_end text l.end l.within other l.ends) l.line;
        last = λ _. refl;
      }
    ]

-- spaces end within the line
pub spaces_within : (text : List ℕ) (i p : ℕ) → p ≤ length text → AreBlanks text i p → (l : LineOf text i) → p ≤ l.end
spaces_within text i p within blank l =
    elim (cases_lt l.end p) [
      | inr le ↦ le
      | inl less ↦ elim l.ends [
        | inl feed ↦ absurd (omega (arith, feed, blank l.end l.low less))
        | inr past ↦ absurd (omega (arith, past, less, within))
      ]
    ]

byte_in : (text : List ℕ) (i p j : ℕ) → i ≤ p → p < j → at (slice_range text i j) (p - i) ≡ at text p
byte_in text i p j low high =
    let place : i + (p - i) ≡ p = omega (arith, low) in
    get_or-take (j - i) (drop i text) (p - i) 0 (omega (arith, low, high)) ∙ get_or-drop i text (p - i) 0
    ∙ ap (at text) place

-- more than spaces
pub not_spaces : (text : List ℕ) (i p j : ℕ) → i ≤ p → p < j → j ≤ length text → AreBlanks text i p → at text p ≢ 32
    → is_spaces (slice_range text i j) ≡ false
not_spaces text i p j low high within blank space =
    let line = slice_range text i j in
    let some = line_spaces text i p j low (omega (arith, high)) within blank space in
    let size = line_length text i j (omega (arith, low, high)) within in
    ne_eqb (spaces line) (length line) (λ e. omega (arith, e, some, size, low, high))

-- a tab begins the first line with text
pub tab_line : (text : List ℕ) (i p w : ℕ) → i ≤ p → p ≤ length text → AreBlanks text i p → at text p ≡ 9
    → ◌≡◌ {A = Option ℕ} (found_indent w (lines_of (drop i text))) None
tab_line text i p w low within blank tab =
    let l = line_of text i (omega (arith, low, within)) in
    let n = lines_at text i l in
    let le = spaces_within text i p within blank l in
    let line = slice_range text i l.end in
    let more : p < l.end = elim (cases_lt p l.end) [
      | inl less ↦ less
      | inr over ↦
          let same : l.end ≡ p = omega (arith, le, over) in
          elim l.ends [
            | inl feed ↦ absurd (omega (arith, tab, sym (ap (at text) same) ∙ feed))
            | inr past ↦ absurd (omega (arith, tab, get_or_past text p 0 (omega (arith, past, same))))
          ]
    ] in
    let space : at text p ≢ 32 = λ e. omega (arith, e, tab) in
    ap (found_indent w) n.are
    ∙ tab_by w line n.rest (and_left (is_spaces line) _ (not_spaces text i p l.end low more l.within blank space))
    (ap (at line) (line_spaces text i p l.end low le l.within blank space) ∙ byte_in text i p l.end low more ∙ tab)

-- and else it says where they stand
pub text_line : (text : List ℕ) (i p w : ℕ) → i ≤ p → p ≤ length text → AreBlanks text i p → at text p ≢ 32
    → at text p ≢ 10 → at text p ≢ 9
    → ◌≡◌ {A = Option ℕ} (found_indent w (lines_of (drop i text))) (Some (max w (p - i)))
text_line text i p w low within blank space feed tab =
    let l = line_of text i (omega (arith, low, within)) in
    let n = lines_at text i l in
    let le = spaces_within text i p within blank l in
    let line = slice_range text i l.end in
    let some = line_spaces text i p l.end low le l.within blank space in
    ap (found_indent w) n.are
    ∙ elim (cases_lt p l.end) [
      | inl more ↦ text_by w line n.rest
          (and_left (is_spaces line) _ (not_spaces text i p l.end low more l.within blank space))
          (λ e. tab (sym (byte_in text i p l.end low more) ∙ (ap (at line) (sym some) ∙ e)))
      | inr over ↦
          let same : l.end ≡ p = omega (arith, le, over) in
          let size = line_length text i l.end l.low l.within in
          text_by w line n.rest
          (and_right (is_spaces line) _ (ap not (n.last (λ is. feed (sym (ap (at text) same) ∙ is)))))
          (λ e. omega (arith, sym e ∙ get_or_past line (spaces line) 0 (omega (arith, some, size, same))))
    ]
    ∙ ap (λ k. Some (max w k)) some

-- The lines of a text from a place on, and how far in a block stands by them.
use Rattle.std.proofs.Common.{ℕ, zero, suc, ◌+◌, ◌-◌, ◌<◌, ◌≤◌, ◌≡◌, ◌≢◌, ◌==◌, inl, inr, Bool, true}
use Rattle.std.proofs.Common.{false, List}
use Rattle.std.proofs.Common.{[], ◌∷◌, refl, sym, ap, ◌∙◌, arith, drop, length}
use Rattle.std.proofs.Common.{slice_range}
use Rattle.std.specs.Prelude.{if◌then◌else◌}
use Rattle.std.proofs.lemmas.Bool.{cases_eq, cases_lt, ne_eqb}
use Rattle.std.proofs.lemmas.List.{drop_all, length-drop, length-take-le}
use Rattle.yaml_direct.specs.Bytes.{AreBlanks, at}
use Rattle.yaml_direct.specs.Gaps.{InLine, IsLineEnd}
use Rattle.yaml_direct.proofs.NextLaws.{bytes_are, bytes_at}
use Rattle.yaml_direct.proofs.PlainRest.{slice_more, slice_none}
use Rattle.yaml_grammar.specs.BlockTexts.{into_first, is_last, lines_of, spaces}

feed_by : (cs : List ℕ) → lines_of (10 ∷ cs) ≡ [] ∷ lines_of cs
feed_by cs = refl

byte_by : (c : ℕ) (cs : List ℕ) → c ≢ 10 → lines_of (c ∷ cs) ≡ into_first c (lines_of cs)
byte_by c cs e = rw (ne_eqb c 10 e) refl

-- a line that ends with a line feed, by how many bytes it has
first_by : (text : List ℕ) (j : ℕ) → at text j ≡ 10 → j ≤ length text → (n i : ℕ) → i + n ≡ j → InLine text i j
    → lines_of (drop i text) ≡ slice_range text i j ∷ lines_of (drop (suc j) text)
first_by text j feed within zero i e line =
    let same : i ≡ j = omega (arith, e) in
    ap (λ k. lines_of (drop k text)) same ∙ ap lines_of (bytes_are text j 9 feed) ∙ feed_by (drop (suc j) text)
    ∙ ap (λ s. s ∷ lines_of (drop (suc j) text)) (sym (ap (λ k. slice_range text k j) same ∙ slice_none text j))
first_by text j feed within (suc n) i e line =
    let rest = lines_of (drop (suc j) text) in
    let inside : i < length text = omega (arith, e, within) in
    ap lines_of (bytes_at text i inside)
    ∙ byte_by (at text i) (drop (suc i) text) (line i (omega arith) (omega (arith, e)))
    ∙ ap (into_first (at text i))
    (first_by text j feed within n (suc i) (omega (arith, e)) (λ k low high. line k (omega (arith, low)) high))
    ∙ ap (λ s. s ∷ rest) (sym (slice_more text i j (omega (arith, e)) inside))

pub first_line : (text : List ℕ) (i j : ℕ) → i ≤ j → j ≤ length text → InLine text i j → at text j ≡ 10
    → lines_of (drop i text) ≡ slice_range text i j ∷ lines_of (drop (suc j) text)
first_line text i j low within line feed = first_by text j feed within (j - i) i (omega (arith, low)) line

-- the last line
last_by : (text : List ℕ) (j : ℕ) → j ≡ length text → (n i : ℕ) → i + n ≡ j → InLine text i j
    → lines_of (drop i text) ≡ slice_range text i j ∷ []
last_by text j over zero i e line =
    let same : i ≡ j = omega (arith, e) in
    ap (λ k. lines_of (drop k text)) same ∙ ap lines_of (drop_all j text (omega (arith, over)))
    ∙ ap (λ s. s ∷ []) (sym (ap (λ k. slice_range text k j) same ∙ slice_none text j))
last_by text j over (suc n) i e line =
    let inside : i < length text = omega (arith, e, over) in
    ap lines_of (bytes_at text i inside)
    ∙ byte_by (at text i) (drop (suc i) text) (line i (omega arith) (omega (arith, e)))
    ∙ ap (into_first (at text i))
    (last_by text j over n (suc i) (omega (arith, e)) (λ k low high. line k (omega (arith, low)) high))
    ∙ ap (λ s. s ∷ []) (sym (slice_more text i j (omega (arith, e)) inside))

pub last_line : (text : List ℕ) (i j : ℕ) → i ≤ j → j ≡ length text → InLine text i j
    → lines_of (drop i text) ≡ slice_range text i j ∷ []
last_line text i j low over line = last_by text j over (j - i) i (omega (arith, low)) line

-- there is one
some_line : (c : ℕ) (lines : List (List ℕ)) → is_last (into_first c lines) ≡ false
some_line c [] = refl
some_line c (l ∷ ls) = refl

lines_by : (c : ℕ) (cs : List ℕ) (b : Bool) → (c == 10) ≡ b → is_last (lines_of (c ∷ cs)) ≡ false
lines_by c cs true e = rw e refl
lines_by c cs false e = rw e (some_line c (lines_of cs))

pub lines_some : (bytes : List ℕ) → is_last (lines_of bytes) ≡ false
lines_some [] = refl
lines_some (c ∷ cs) = lines_by c cs (c == 10) refl

-- the line from a place on
pub record LineOf (text : List ℕ) (i : ℕ) : Type 0 where
  pub end : ℕ
  pub low : i ≤ end
  pub within : end ≤ length text
  pub line : InLine text i end
  pub ends : IsLineEnd text end

line_by : (text : List ℕ) (n i : ℕ) → i + n ≡ length text → LineOf text i
line_by text zero i e = record {
  end = i;
  low = omega arith;
  within = omega (arith, e);
  line = λ k low high feed. omega (arith, low, high);
  ends = inr (omega (arith, e));
}
line_by text (suc n) i e =
    elim (cases_eq (at text i) 10) [
      | inl feed ↦ record {
        end = i;
        low = omega arith;
        within = omega (arith, e);
        line = λ k low high is. omega (arith, low, high);
        ends = inl feed;
      }
      | inr other ↦
          let later = line_by text n (suc i) (omega (arith, e)) in
          record {
            end = later.end;
            low = omega (arith, later.low);
            within = later.within;
            line = λ k low high is. elim (cases_lt i k) [
              | inl more ↦ later.line k more high is
              | inr here ↦ (let same : k ≡ i = omega (arith, low, here) in other (ap (at text) (sym same) ∙ is))
            ];
            ends = later.ends;
          }
    ]

pub line_of : (text : List ℕ) (i : ℕ) → i ≤ length text → LineOf text i
line_of text i within = line_by text (length text - i) i (omega (arith, within))

-- the spaces of a line
spaces_by : (text : List ℕ) (p j : ℕ) → p ≤ j → j ≤ length text → at text p ≢ 32 → (n i : ℕ) → i + n ≡ p
    → AreBlanks text i p → spaces (slice_range text i j) ≡ n
spaces_by text p j high within space zero i e blank =
    let same : i ≡ p = omega (arith, e) in
    ap (λ k. spaces (slice_range text k j)) same
    ∙ elim (cases_lt p j) [
      | inl some ↦ ap spaces (slice_more text p j some (omega (arith, some, within)))
          ∙ ap (λ (b : Bool). if b then suc (spaces (slice_range text (suc p) j)) else 0) (ne_eqb (at text p) 32 space)
      | inr none_left ↦
          let over : p ≡ j = omega (arith, high, none_left) in
          ap (λ k. spaces (slice_range text k j)) over ∙ ap spaces (slice_none text j)
    ]
spaces_by text p j high within space (suc n) i e blank =
    ap spaces (slice_more text i j (omega (arith, e, high)) (omega (arith, e, high, within))
    ∙ ap (λ c. c ∷ slice_range text (suc i) j) (blank i (omega arith) (omega (arith, e))))
    ∙ ap suc (spaces_by text p j high within space n (suc i) (omega (arith, e)) (λ k low to. blank k (omega
    (arith, low)) to))

pub line_spaces : (text : List ℕ) (i p j : ℕ) → i ≤ p → p ≤ j → j ≤ length text → AreBlanks text i p → at text p ≢ 32
    → spaces (slice_range text i j) ≡ p - i
line_spaces text i p j low high within blank space =
    spaces_by text p j high within space (p - i) i (omega (arith, low)) blank

pub line_length : (text : List ℕ) (i j : ℕ) → i ≤ j → j ≤ length text → length (slice_range text i j) ≡ j - i
line_length text i j low within =
    let all = length-drop i text in length-take-le (j - i) (drop i text) (omega (arith, all, low, within))

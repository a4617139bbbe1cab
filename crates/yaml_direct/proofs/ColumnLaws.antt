-- Columns, one byte further.
use Rattle.std.proofs.Common.{ℕ, zero, suc, ◌+◌, ◌-◌, ◌≡◌, ◌≢◌, ◌<◌, ◌≤◌, ◌==◌, ◌&&◌, false, List}
use Rattle.std.proofs.Common.{refl, sym, ap, ◌∙◌, arith}
use Rattle.std.proofs.lemmas.Bool.{ne_eqb}
use Rattle.std.specs.Int.{is_in_range}
use Rattle.yaml_base.specs.Places.{place_behind, place_of}
use Rattle.yaml_grammar.specs.Bytes.{at, column}

pub first_column : (text : List ℕ) → column text 0 ≡ 0
first_column text = refl

-- behind a line feed a line begins
pub feed_column : (text : List ℕ) (i : ℕ) → at text i ≡ 10 → column text (suc i) ≡ 0
feed_column text i e = ap (λ q. q.1) (line_behind (place_of text i))
  where
    line_behind : (q : ℕ × ℕ) → place_behind text i q ≡ (q.0 + 1, 0)
    line_behind q = rw e refl

not_later : (c : ℕ) → c < 128 → is_in_range 0x80 0xBF c ≡ false
not_later c low = grind (arith, low)

no_mark : (text : List ℕ) (i : ℕ) → at text i < 128 → (i == 0 && (at text 0 == 0xEF && (at text 1 == 0xBB && at text 2 == 0xBF))) ≡ false
no_mark text zero low = rw (ne_eqb (at text 0) 0xEF (λ e. omega (arith, low, e))) refl
no_mark text (suc i) low = rw (ne_eqb (suc i) 0 (λ z. omega (arith, z))) refl

-- and behind another byte of ASCII the next column
pub column_on : (text : List ℕ) (i : ℕ) → at text i < 128 → at text i ≢ 10 → at text i ≢ 13
    → column text (suc i) ≡ column text i + 1
column_on text i low feed return = ap (λ q. q.1) (next_column (place_of text i))
  where
    next_column : (q : ℕ × ℕ) → place_behind text i q ≡ (q.0, q.1 + 1)
    next_column q =
        rw (
          ne_eqb (at text i) 10 feed,
          ne_eqb (at text i) 13 return,
          ne_eqb (at text i) 0x85 (λ e. omega (arith, low, e)),
          ne_eqb (at text i) 0xA8 (λ e. omega (arith, low, e)),
          ne_eqb (at text i) 0xA9 (λ e. omega (arith, low, e)),
          no_mark text i low,
          not_later (at text i) low,
        ) refl

pub space_column : (text : List ℕ) (i : ℕ) → at text i ≡ 32 → column text (suc i) ≡ column text i + 1
space_column text i e = column_on text i (omega (arith, e)) (omega (arith, e)) (omega (arith, e))

spaces_by : (text : List ℕ) (n i : ℕ) → ((k : ℕ) → i ≤ k → k < i + n → at text k ≡ 32)
    → column text (i + n) ≡ column text i + n
spaces_by text zero i blank =
    let same : i + 0 ≡ i = omega arith in
    let none : column text i ≡ column text i + 0 = omega arith in
    ap (column text) same ∙ none
spaces_by text (suc n) i blank =
    let there : i + suc n ≡ suc i + n = omega arith in
    let later = spaces_by text n (suc i) (λ k low high. blank k (omega (arith, low)) (omega (arith, high))) in
    let one = space_column text i (blank i (omega arith) (omega arith)) in
    ap (column text) there ∙ omega (arith, later, one)

-- over spaces
pub spaces_column : (text : List ℕ) (i j : ℕ) → i ≤ j → ((k : ℕ) → i ≤ k → k < j → at text k ≡ 32)
    → column text j ≡ column text i + (j - i)
spaces_column text i j low blank =
    let there : i + (j - i) ≡ j = omega (arith, low) in
    sym (ap (column text) there) ∙ spaces_by text (j - i) i (λ k a b. blank k a (omega (arith, b, there)))

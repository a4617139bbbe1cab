-- Line feeds, and what stands between tokens.
use Rattle.std.proofs.Common.{
  ℕ,
  ◌+◌,
  ◌-◌,
  ◌≡◌,
  ◌≤◌,
  Bool,
  true,
  false,
  ◌||◌,
  ◌==◌,
  not,
  refl,
  sym,
  subst,
  ◌∙◌,
  arith,
  List,
  length,
  drop,
  take,
}
use Rattle.std.proofs.lemmas.List.{get_or_past, get_or-drop, get_or-take, length-take-le, length-drop}
use Rattle.memchr.specs.Find.{Nowhere, Passes, is_byte}
use Rattle.yaml_direct.specs.Bytes.{at}
use Rattle.yaml_direct.specs.Gaps.{Gap, InLine, begins_token, no_gap}

sum_back : (i k : ℕ) → i ≤ k → i + (k - i) ≡ k
sum_back i k low = omega (arith, low)

-- a byte that does not pass at any place from here is no_place in the text between
pub passes_nowhere : (text : List ℕ) (from n len : ℕ) → len ≤ n
    → Nowhere (Passes (is_byte 10) (take n (drop from text))) 0 len → InLine text from (from + len)
passes_nowhere text from n len few none k low high e =
    let there : at (take n (drop from text)) (k - from) ≡ 10 =
    get_or-take n (drop from text) (k - from) 0 (omega (arith, low, high, few))
    ∙ get_or-drop from text (k - from) 0 ∙ subst (λ x. at text x ≡ 10) (sym (sum_back from k low)) e in
    none (k - from) (omega arith) (omega (arith, low, high)) (rw there refl)

pub length_of_part : (text : List ℕ) (from : ℕ) → from ≤ length text
    → length (take (length text - from) (drop from text)) ≡ length text - from
length_of_part text from h =
    let all : length (drop from text) ≡ length text - from = length-drop from text in
    length-take-le (length text - from) (drop from text) (omega (arith, all))

pub or_true : (b : Bool) → (b || true) ≡ true
or_true true = refl
or_true false = refl

pub or_false : (b : Bool) → (b || false) ≡ b
or_false true = refl
or_false false = refl

-- where nothing follows, what stands up to here is all of the gap
pub whole_gap : (text : List ℕ) (b : Bool) (i j : ℕ)
    → ((c : Bool) (k : ℕ) → Gap text c j k → Gap text (b || c) i k) → Gap text b i j
whole_gap text b i j front = subst (λ x. Gap text x i j) (or_false b) (front false j no_gap)

pub behind_end : (text : List ℕ) (i : ℕ) → length text ≤ i → begins_token text i ≡ true
behind_end text i le = rw (get_or_past text i 0 le) refl

-- lines that were counted before, and one more
pub counted : (line now : ℕ) → line ≤ now → not (now + 1 == line) ≡ true
counted line now low = grind (arith, low)

pub same_line : (line : ℕ) → not (line == line) ≡ false
same_line line = grind arith

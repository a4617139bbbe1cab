-- An integer within a range, and one outside.
use Rattle.std.specs.Prelude.{MatchOption, Option, None, Some, Bool, true, false, nat_le, int_le, ◌&&◌, if◌then◌else◌}
use Rattle.std.specs.Prelude.{ℤ, pos, neg_ℤ, ◌≤ℤ◌, ◌<ℤ◌}
use mathlib.Core.Bool.{true≢false}
use Rattle.std.specs.Bool.{Decides}
use Rattle.std.proofs.Common.{◌≡◌, ℕ, ◌-◌, ◌^◌, ◌<◌, ◌≤◌, List, refl, sym, ap, ◌∙◌, arith, ◌⊎◌, inl, inr}
use Rattle.std.proofs.lemmas.Bool.Decides.{Decides-and, nat_tests}
use Rattle.std.proofs.lemmas.Int.{ints}
use Rattle.std.proofs.lemmas.Option.{same_Some, none-some}
use Rattle.yaml_base.specs.Integers.{in_range, up_to, number_in_any_base, integer_of, negative_of, number_in_base}
use Rattle.yaml_base.specs.Integers.{decimal}
use Rattle.yaml_base.specs.Signs.{Sign, unsigned, plus, minus, signed, is_minus, sign_of, unsigned_part}

pub int_le-Decides : (a b : ℤ) → Decides (int_le a b) (a ≤ℤ b)
int_le-Decides a b = by (int_le a b) refl
  where
    by : (t : Bool) → int_le a b ≡ t → Decides t (a ≤ℤ b)
    by true e = ((λ _. omega (arith, ints)), (λ _. refl))
    by false e = ((λ f. cc), (λ h. absurd (omega (arith, ints, h))))

pub le-Decides : (a b : ℕ) → Decides (nat_le a b) (a ≤ b)
le-Decides a b = by (nat_le a b) refl
  where
    by : (t : Bool) → nat_le a b ≡ t → Decides t (a ≤ b)
    by true e = ((λ _. grind (arith, nat_tests)), (λ _. refl))
    by false e = ((λ f. absurd (true≢false (sym f))), (λ h. absurd (grind (arith, nat_tests))))

within-Decides : (low high z : ℤ) → Decides (int_le low z && int_le z high) ((low ≤ℤ z) × (z ≤ℤ high))
within-Decides low high z = Decides-and _ _ (int_le-Decides low z) (int_le-Decides z high)

picked : {A : Type 0} (t : Bool) (P : Type 0) (x : A) → Decides t P → P → (if t then Some x else None) ≡ Some x
picked t P x d p = rw (d.1 p) refl

dropped : {A : Type 0} (t : Bool) (P : Type 0) (x : A) → Decides t P → ¬ P → (if t then Some x else None) ≡ None
dropped true P x d n = absurd (n (d.0 refl))
dropped false P x d n = refl

pub in_range-inside : (low high z : ℤ) → low ≤ℤ z → z ≤ℤ high → in_range low high (Some z) ≡ Some z
in_range-inside low high z l h = picked _ _ z (within-Decides low high z) (l, h)

pub in_range-outside : (low high z : ℤ) → ¬ ((low ≤ℤ z) × (z ≤ℤ high)) → in_range low high (Some z) ≡ None
in_range-outside low high z n = dropped _ _ z (within-Decides low high z) n

-- what passes the test was there
kept : {A : Type 0} (t : Bool) (P : Type 0) (x y : A) → Decides t P → (if t then Some x else None) ≡ Some y
    → P × (x ≡ y)
kept true P x y d e = (d.0 refl, same_Some x y e)
kept false P x y d e = absurd (none-some y e)

refused : {A : Type 0} (t : Bool) (P : Type 0) (x : A) → Decides t P → (if t then Some x else None) ≡ None → ¬ P
refused true P x d e p = none-some x (sym e)
refused false P x d e p = absurd (true≢false (sym (d.1 p)))

pub in_range-found : (low high : ℤ) (o : Option ℤ) (z : ℤ) → in_range low high o ≡ Some z → o ≡ Some z
in_range-found low high None z e = absurd (none-some z e)
in_range-found low high (Some x) z e = ap Some (kept _ _ x z (within-Decides low high x) e).1

pub in_range-within : (low high : ℤ) (o : Option ℤ) (z : ℤ) → in_range low high o ≡ Some z → (low ≤ℤ z) × (z ≤ℤ high)
in_range-within low high None z e = absurd (none-some z e)
in_range-within low high (Some x) z e = let k = kept _ _ x z (within-Decides low high x) e in rw (← k.1) k.0

-- what is not in a range is in no part of it
pub in_range-narrow : (low high least most : ℤ) (o : Option ℤ) → low ≤ℤ least → most ≤ℤ high
    → in_range low high o ≡ None → in_range least most o ≡ None
in_range-narrow low high least most None l h e = refl
in_range-narrow low high least most (Some z) l h e =
    let out = refused _ _ z (within-Decides low high z) e in
    in_range-outside least most z (λ p. out (omega (arith, ints, l, p.0), omega (arith, ints, h, p.1)))

pub up_to-inside : (most n : ℕ) → n ≤ most → up_to most (Some n) ≡ Some n
up_to-inside most n l = picked _ _ n (le-Decides n most) l

pub up_to-found : (most : ℕ) (o : Option ℕ) (n : ℕ) → up_to most o ≡ Some n → o ≡ Some n
up_to-found most None n e = absurd (none-some n e)
up_to-found most (Some x) n e = ap Some (kept _ _ x n (le-Decides x most) e).1

pub up_to-below : (most : ℕ) (o : Option ℕ) (n : ℕ) → up_to most o ≡ Some n → n ≤ most
up_to-below most None n e = absurd (none-some n e)
up_to-below most (Some x) n e = let k = kept _ _ x n (le-Decides x most) e in rw (← k.1) k.0

pub up_to-above : (most : ℕ) (o : Option ℕ) → up_to most o ≡ None → (o ≡ None) ⊎ ((n : ℕ) × (o ≡ Some n) × (most < n))
up_to-above most None e = inl refl
up_to-above most (Some n) e = let out = refused _ _ n (le-Decides n most) e in inr (n, refl, omega (arith, out))

-- a number under its sign
pub signed-is : (s : Sign) (n : ℕ) → signed s n ≡ (if is_minus s then neg_ℤ (pos n) else pos n)
signed-is unsigned n = refl
signed-is plus n = refl
signed-is minus n = refl

-- a number too large for every integer of 128 bits
too_large : (t : Bool) (low high : ℤ) (n : ℕ) → (high <ℤ pos n) × (neg_ℤ (pos n) <ℤ low)
    → ¬ ((low ≤ℤ (if t then neg_ℤ (pos n) else pos n)) × ((if t then neg_ℤ (pos n) else pos n) ≤ℤ high))
too_large true low high n h p = omega (arith, ints, h.1, p.0)
too_large false low high n h p = omega (arith, ints, h.0, p.1)

large : (n : ℕ) → 2 ^ 128 - 1 < n → (pos (2 ^ 127 - 1) <ℤ pos n) × (neg_ℤ (pos n) <ℤ neg_ℤ (pos (2 ^ 127)))
large n h = (omega (arith, ints, h), omega (arith, ints, h))

under_sign-none : (s : Sign) (n : ℕ) → 2 ^ 128 - 1 < n
    → in_range (neg_ℤ (pos (2 ^ 127))) (pos (2 ^ 127 - 1)) (Some (signed s n)) ≡ None
under_sign-none s n h =
    rw (signed-is s n)
    (in_range-outside (neg_ℤ (pos (2 ^ 127))) (pos (2 ^ 127 - 1)) _ (too_large (is_minus s) _ _ n (large n h)))

-- the integer of a text whose number is too large, or is none
pub integer_of-none : (text body : List ℕ) → body ≡ unsigned_part text
    → None ≡ up_to (2 ^ 128 - 1) (number_in_any_base body)
    → None ≡ in_range (neg_ℤ (pos (2 ^ 127))) (pos (2 ^ 127 - 1)) (integer_of text)
integer_of-none text body b e = elim (up_to-above (2 ^ 128 - 1) (number_in_any_base body) (sym e)) [
  | inl none ↦ rw (← b, none) refl
  | inr f ↦ rw (← b, f.1) (sym (under_sign-none (sign_of text) f.0 f.2))
]

pub integer_of-some : (low high : ℤ) (most : ℕ) (text body : List ℕ) (negative : Bool) (size : ℕ) (r : Option ℤ)
    → body ≡ unsigned_part text → negative ≡ is_minus (sign_of text) → Some size ≡ up_to most (number_in_any_base body)
    → r ≡ in_range low high (Some (if negative then neg_ℤ (pos size) else pos size))
    → r ≡ in_range low high (integer_of text)
integer_of-some low high most text body negative size r b s e h =
    rw (← b, up_to-found most (number_in_any_base body) size (sym e), signed-is (sign_of text) size, ← s) h

pub negative_of-decimal : (low high : ℤ) (most : ℕ) (text body : List ℕ) (negative : Bool) (size : ℕ) (r : Option ℤ)
    → body ≡ unsigned_part text → negative ≡ is_minus (sign_of text) → negative ≡ false
    → Some size ≡ up_to most (number_in_base decimal body)
    → r ≡ in_range low high (Some (if negative then neg_ℤ (pos size) else pos size))
    → r ≡ in_range low high (negative_of text)
negative_of-decimal low high most text body negative size r b s n e h =
    rw (sym s ∙ n, ← b, up_to-found most (number_in_base decimal body) size (sym e)) (rw n at h)

pub up_to-twice : (high most : ℕ) (o v r : Option ℕ) → most ≤ high → v ≡ up_to high o → r ≡ up_to most v
    → r ≡ up_to most o
up_to-twice high most o (Some n) r h e f = rw (up_to-found high o n (sym e)) f
up_to-twice high most o None r h e f = elim (up_to-above high o (sym e)) [
  | inl none ↦ rw none f
  | inr g ↦ f ∙ rw g.1 (sym (dropped _ _ g.0 (le-Decides g.0 most) (λ l. omega (arith, l, g.2, h))))
]

-- a range within a range
pub in_range-twice : (low high least most : ℤ) (o v r : Option ℤ) → low ≤ℤ least → most ≤ℤ high
    → v ≡ in_range low high o → r ≡ in_range least most v → r ≡ in_range least most o
in_range-twice low high least most o None r l h e f = f ∙ sym (in_range-narrow low high least most o l h (sym e))
in_range-twice low high least most o (Some z) r l h e f = rw (in_range-found low high o z (sym e)) f

-- what a range keeps of a value with a meaning
pub in_range-exact : (P : ℤ → Type 0) (low high : ℤ) (o r : Option ℤ)
    → ((z : ℤ) → (o ≡ Some z → P z) × (P z → o ≡ Some z))
    → r ≡ in_range low high o
    → MatchOption r ((z : ℤ) → low ≤ℤ z → z ≤ℤ high → ¬ (P z)) (λ z. P z × (low ≤ℤ z) × (z ≤ℤ high))
in_range-exact P low high o (Some z) h e = let f = in_range-found low high o z (sym e) in
    let w = in_range-within low high o z (sym e) in ((h z).0 f, w.0, w.1)
in_range-exact P low high o None h e = λ z l m p.
    let i = in_range-inside low high z l m in none-some z (e ∙ rw ((h z).1 p) i)

pub up_to-exact : (P : ℕ → Type 0) (most : ℕ) (o r : Option ℕ) → ((n : ℕ) → (o ≡ Some n → P n) × (P n → o ≡ Some n))
    → r ≡ up_to most o → MatchOption r ((n : ℕ) → n ≤ most → ¬ (P n)) (λ n. P n × (n ≤ most))
up_to-exact P most o (Some n) h e = ((h n).0 (up_to-found most o n (sym e)), up_to-below most o n (sym e))
up_to-exact P most o None h e = λ n l p. none-some n (e ∙ rw ((h n).1 p) (picked _ _ n (le-Decides n most) l))

-- What digits write, and what `from_str_radix` reads.
use Rattle.std.specs.Prelude.{◌==◌, Option, Result, Ok, Err, None, Some, Bool, true, false, nat_lt, ◌&&◌, if◌then◌else◌}
use Rattle.std.specs.Bool.{Decides}
use Rattle.std.specs.Result.{result_ok, OkIff}
use Rattle.std.specs.Char.{digit_value}
use Rattle.std.specs.List.{list_all}
use Rattle.std.specs.Str.Parse.{AllDigits, IsNumeral, ParsesUnsigned, digits_value, digits_value_after}
use Rattle.std.proofs.Common.{◌≡◌, ◌≢◌, ℕ, ◌+◌, ◌*◌, ◌-◌, ◌^◌, ◌<◌, ◌≤◌, List, [], ◌∷◌, length, refl, sym, ap, ◌∙◌}
use Rattle.std.proofs.Common.{arith, get_or}
use Rattle.std.proofs.lemmas.Bool.Decides.{Decides-ltb, Decides-and, nat_tests, Decides-eqb}
use mathlib.Core.Bool.{true≢false}
use Rattle.std.proofs.lemmas.Str.Parse.{without_leading_plus_none}
use Rattle.std.proofs.Math.Nat.{pow-zero, pow-succ'}
use Rattle.yaml_base.specs.Integers.{digits_number, place_value, up_to, decimal, number_in_base}

-- the number so far moves one place up
carried : (n b d p w : ℕ) → (n * b + d) * p + w ≡ n * (b * p) + (d * p + w)
carried n b d p w = omega arith

-- a fold from the left gives each digit the weight of its place
digits_value_after-place : (base n : ℕ) (ds : List ℕ)
    → digits_value_after base n ds ≡ n * base ^ length ds + place_value base ds
digits_value_after-place base n [] = grind (arith, pow-zero base)
digits_value_after-place base n (c ∷ cs) =
    digits_value_after-place base (n * base + digit_value c) cs
    ∙ rw pow-succ' (carried n base (digit_value c) (base ^ length cs) (place_value base cs))

digits_value-place : (base : ℕ) (ds : List ℕ) → digits_value base ds ≡ place_value base ds
digits_value-place base ds = digits_value_after-place base 0 ds ∙ omega arith

pub all_digits-Decides : (base : ℕ) (ds : List ℕ)
    → Decides (list_all (λ c. nat_lt (digit_value c) base) ds) (AllDigits base ds)
all_digits-Decides base [] = ((λ e. tt), (λ h. refl))
all_digits-Decides base (c ∷ cs) = Decides-and _ _ (Decides-ltb (digit_value c) base) (all_digits-Decides base cs)

pub numeral-Decides : (base : ℕ) (ds : List ℕ)
    → Decides (nat_lt 0 (length ds) && list_all (λ c. nat_lt (digit_value c) base) ds) (IsNumeral base ds)
numeral-Decides base ds = Decides-and _ _ (Decides-ltb 0 (length ds)) (all_digits-Decides base ds)

-- a number that is there where a fact holds and it is small enough
small_number : {E : Type 0} (P : Type 0) (t : Bool) (v most : ℕ) (r : Result ℕ E) → Decides t P
    → OkIff r (P × (v < most + 1)) v
    → result_ok r ≡ up_to most (if t then Some v else None)
small_number P true v most (Ok x) d h = rw h.1 (grind (arith, nat_tests, h.0.1))
small_number P false v most (Ok x) d h = absurd (true≢false (sym (d.1 h.0.0)))
small_number P true v most (Err x) d h =
    let low : v < most + 1 → ⊥ = λ l. h (d.0 refl, l) in grind (arith, nat_tests)
small_number P false v most (Err x) d h = refl

no_number : (t : Bool) (v most : ℕ) → (t ≡ true → ⊥) → None ≡ up_to most (if t then Some v else None)
no_number true v most h = absurd (h refl)
no_number false v most h = refl

pub digits_number-parsed : {E : Type 0} (base : ℕ) (bs : List ℕ) (r : Result ℕ E) (o : Option ℕ)
    → get_or bs 0 0 ≢ 43 → ParsesUnsigned 128 base bs r → o ≡ result_ok r
    → o ≡ up_to (2 ^ 128 - 1) (digits_number base bs)
digits_number-parsed base bs r o h p e =
    let f = rw (without_leading_plus_none bs h, digits_value-place base bs) at p in
    e ∙ small_number _ _ _ (2 ^ 128 - 1) r (numeral-Decides base bs) f

-- digits that begin with a plus are none
pub digits_number-plus : (base most : ℕ) (bs : List ℕ) → base ≤ 36 → get_or bs 0 0 ≡ 43
    → None ≡ up_to most (digits_number base bs)
digits_number-plus base most bs small e =
    no_number _ _ most (λ t. begins_with_digit bs base e small ((numeral-Decides base bs).0 t))
  where
    begins_with_digit : (bs : List ℕ) (base : ℕ) → get_or bs 0 0 ≡ 43 → base ≤ 36 → IsNumeral base bs → ⊥
    begins_with_digit [] base e small n = omega (arith, n.0)
    begins_with_digit (c ∷ cs) base e small n =
        let d : digit_value c ≡ 36 = ap digit_value e in let below = n.1.0 in omega (arith, d, below, small)

-- decimal text with a zero in front writes no number
pub number_in_base-zero : (most : ℕ) (text : List ℕ) → get_or text 0 0 ≡ 48 → 1 < length text
    → None ≡ up_to most (number_in_base decimal text)
number_in_base-zero most text e l =
    let zero : (get_or text 0 0 == 48) ≡ true = (Decides-eqb (get_or text 0 0) 48).1 e in
    let long : nat_lt 1 (length text) ≡ true = (Decides-ltb 1 (length text)).1 l in
    rw (zero, long) refl

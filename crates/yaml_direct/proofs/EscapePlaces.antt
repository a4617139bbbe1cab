-- Digits, place by place.
use Rattle.std.proofs.Common.{ℕ, ◌+◌, ◌<◌, ◌≡◌, false, List, arith, subst, inl, inr}
use Rattle.std.proofs.lemmas.Bool.{cases_lt}
use Rattle.std.specs.Char.{digit_value}
use Rattle.yaml_direct.specs.Bytes.{at}
use Rattle.yaml_direct.specs.Quoted.{AreDigits, IsRun, is_stop}
use Rattle.yaml_direct.specs.declared.quote.Quote.TheVariants.{Double}

pub digits_more : (text : List ℕ) (from index digit : ℕ) → digit ≡ digit_value (at text (from + index)) → digit < 16
    → AreDigits text from (from + index) → AreDigits text from (from + (index + 1))
digits_more text from index digit is small before k low high =
    elim (cases_lt k (from + index)) [
      | inl h ↦ before k low h
      | inr h ↦ subst (λ x. digit_value (at text x) < 16) (omega (arith, h, high)) (subst (λ x. x < 16) is small)
    ]

-- no digit is a quote, a backslash or a line feed
own_digit : (c : ℕ) → digit_value c < 16 → is_stop Double c ≡ false
own_digit c small = grind (arith, small)

pub run_of_digits : (text : List ℕ) (i j : ℕ) → AreDigits text i j → IsRun text Double i j
run_of_digits text i j digits k low high = own_digit (at text k) (digits k low high)

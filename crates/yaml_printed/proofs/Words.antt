-- Small facts of tests and of lists.
use Rattle.std.proofs.Common.{◌≡◌, ℕ, zero, suc, ◌==◌, ◌&&◌, ◌||◌, Bool, true, false, refl, ap, arith, List, ◌∷◌, ◌++◌}
use Rattle.std.proofs.Common.{replicate}

pub and_no : (x : Bool) → (x && false) ≡ false
and_no true = refl
and_no false = refl

pub or_yes : (x : Bool) → (x || true) ≡ true
or_yes true = refl
or_yes false = refl

pub equal_self : (c : ℕ) → (c == c) ≡ true
equal_self c = grind arith

pub one_further : (n : ℕ) (xs : List ℕ) → replicate (suc n) 10 ++ xs ≡ replicate n 10 ++ (10 ∷ xs)
one_further zero xs = refl
one_further (suc n) xs = ap (λ l. 10 ∷ l) (one_further n xs)

-- Bytes before the rest of a scalar.
use Rattle.std.proofs.Common.{ℕ, ◌+◌, ◌≡◌, List, [], ◌++◌, Some, None, refl, sym, ap₂, append_assoc, arith}
use Rattle.yaml_grammar.specs.Folding.{Rest, with_bytes}

-- so many bytes that say this
pub some_rest : {n m : ℕ} {x y : List ℕ} → n ≡ m → x ≡ y → ◌≡◌ {A = Rest} (Some (n, x)) (Some (m, y))
some_rest p q = ap₂ (λ n x. Some (n, x)) p q

pub twice : (a b : ℕ) (s t : List ℕ) (r : Rest) → with_bytes a s (with_bytes b t r) ≡ with_bytes (a + b) (s ++ t) r
twice a b s t None = refl
twice a b s t (Some r) = some_rest (omega arith) (sym (append_assoc s t r.1))

pub no_bytes : (r : Rest) → with_bytes 0 [] r ≡ r
no_bytes None = refl
no_bytes (Some r) = some_rest (omega arith) refl

-- Texts that begin with a byte.
use Rattle.std.proofs.Common.{◌≡◌, ◌≢◌, ◌==◌, Bool, ap, true, false, ◌∙◌, ℕ, List, [], ◌∷◌, Option, Some, None}
use Rattle.std.proofs.Common.{option_map, refl, sym, arith}
use Rattle.std.specs.Prelude.{MatchOption}
use Rattle.std.specs.Borrow.{Bor}
use Rattle.std.proofs.lemmas.Bool.Decides.{nat_tests}
use Rattle.yaml_value.specs.TagText.{behind_byte}

behind_byte-at : (c : ℕ) (rest : List ℕ) → behind_byte c (c ∷ rest) ≡ Some rest
behind_byte-at c rest = go (c == c) refl (grind (arith, nat_tests))
  where
    go : (t : Bool) → (c == c) ≡ t → t ≡ true → behind_byte c (c ∷ rest) ≡ Some rest
    go t e f = rw (e, f)

-- the clause of `strip_prefix` at a byte
pub behind_byte-from : (c : ℕ) (bs : List ℕ) (r : Option (Bor (List ℕ)))
    → MatchOption r ((rest : List ℕ) → bs ≢ c ∷ rest) (λ x. bs ≡ c ∷ x.now)
    → option_map (λ s. s.now) r ≡ behind_byte c bs
behind_byte-from c [] None h = refl
behind_byte-from c [] (Some x) h = cc
behind_byte-from c (b ∷ bs) None h = go (b == c) refl
  where
    go : (t : Bool) → (b == c) ≡ t → None ≡ behind_byte c (b ∷ bs)
    go true e = absurd (h bs (ap (λ n. n ∷ bs) (grind (arith, nat_tests))))
    go false e = rw e
behind_byte-from c (b ∷ bs) (Some x) h = sym (ap (behind_byte c) h ∙ behind_byte-at c x.now)

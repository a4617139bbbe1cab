-- A text is its sign and what follows.
use Rattle.std.specs.Prelude.{Bool, true, false, ◌==◌, if◌then◌else◌}
use Rattle.std.specs.Bool.{Decides}
use Rattle.std.proofs.Common.{◌≡◌, ◌≢◌, ℕ, List, [], ◌∷◌, ◌++◌, length, drop, refl, ap}
use Rattle.std.proofs.lemmas.Bool.Decides.{Decides-eqb}
use Rattle.yaml_base.specs.Signs.{Sign, unsigned, plus, minus, sign_text, sign_of, unsigned_part}

pub sign-split : (text : List ℕ) → text ≡ sign_text (sign_of text) ++ unsigned_part text
sign-split [] = refl
sign-split (c ∷ cs) = by (c == 43) (c == 45) (Decides-eqb c 43) (Decides-eqb c 45)
  where
    by : (p m : Bool) → Decides p (c ≡ 43) → Decides m (c ≡ 45)
        → c ∷ cs ≡ sign_text (if p then plus else (if m then minus else unsigned))
        ++ drop (length (sign_text (if p then plus else (if m then minus else unsigned)))) (c ∷ cs)
    by true m p e = ap (λ x. x ∷ cs) (p.0 refl)
    by false true p e = ap (λ x. x ∷ cs) (e.0 refl)
    by false false p e = refl

pub unproved : (t : Bool) (P : Type 0) → Decides t P → ¬ P → t ≡ false
unproved true P d n = absurd (n (d.0 refl))
unproved false P d n = refl

-- what begins with neither sign has none
pub sign_of-other : (c : ℕ) (cs : List ℕ) → c ≢ 43 → c ≢ 45 → sign_of (c ∷ cs) ≡ unsigned
sign_of-other c cs p m = rw (unproved _ _ (Decides-eqb c 43) p, unproved _ _ (Decides-eqb c 45) m) refl

-- what has no sign of its own has the sign in front of it
pub behind-sign : (s : Sign) (body : List ℕ) → sign_of body ≡ unsigned
    → (sign_of (sign_text s ++ body) ≡ s) × (unsigned_part (sign_text s ++ body) ≡ body)
behind-sign unsigned body u = (u, rw u refl)
behind-sign plus body u = (refl, refl)
behind-sign minus body u = (refl, refl)

-- What a text with bytes before it is.
use Rattle.std.proofs.Common.{◌≡◌, ℕ, ◌==◌, false, List, ◌∷◌, ◌++◌, Option, Some, None, refl, ap₂}
use Rattle.std.proofs.lemmas.Bool.{or_parts}
use Rattle.std.proofs.lemmas.Option.{same_Some, none-some}
use Rattle.yaml_base.specs.LineBreaks.{begins_with_break}
use Rattle.yaml_base.specs.QuotedLines.{before}
use Rattle.yaml_grammar.specs.Folding.{Rest}

-- so many bytes that say this
pub some_rest : {n m : ℕ} {x y : List ℕ} → n ≡ m → x ≡ y → ◌≡◌ {A = Rest} (Some (n, x)) (Some (m, y))
some_rest p q = ap₂ (λ n x. Some (n, x)) p q

-- a text with bytes before it is those and a text
pub record IsBefore (bytes : List ℕ) (rest : Option (List ℕ)) (t : List ℕ) : Type 0 where
  pub later : List ℕ
  pub is : rest ≡ Some later
  pub all : bytes ++ later ≡ t

pub before_is : (bytes : List ℕ) (rest : Option (List ℕ)) (t : List ℕ) → before bytes rest ≡ Some t
    → IsBefore bytes rest t
before_is bytes None t e = absurd (none-some t e)
before_is bytes (Some later) t e = record { later = later; is = refl; all = same_Some _ _ e }

-- no byte that begins no line break is a line feed
pub no_feed : (c : ℕ) (cs : List ℕ) → begins_with_break (c ∷ cs) ≡ false → (c == 10) ≡ false
no_feed c cs e = (or_parts _ _ e).0

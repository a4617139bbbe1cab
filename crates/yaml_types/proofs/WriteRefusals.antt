-- A value is refused by a message of its parts.
use Rattle.std.proofs.Common.{◌≡◌, ℕ, List, ◌∷◌, ◌++◌, None, Some, refl, subst, arith}
use Rattle.std.specs.Prelude.{Contains}
use Rattle.std.proofs.lemmas.List.Elements.{Contains-append_right}
use Rattle.yaml_base.specs.declared.error.Cause.{Cause}
use Rattle.yaml_base.specs.declared.error.Cause.TheVariants.{Custom, Memory}
use Rattle.yaml_types.specs.WriteRefusal.{IsWriteRefusal, SomeUnwritten}

-- a fault that is one of some messages is one of more
pub refused_by : (P Q : List ℕ → Type 0) (fault : Cause) → ((message : List ℕ) → P message → Q message)
    → IsWriteRefusal P fault → IsWriteRefusal Q fault
refused_by P Q Memory more h = tt
refused_by P Q (Custom message None) more h = more message h
refused_by P Q (Custom message (Some place)) more h = absurd h
refused_by P Q _ more h = absurd h

-- where the next value is not written, one of all is not
pub next_unwritten : {T : Type 0} (unwritten : T → List ℕ → Type 0) (whole front left rest : List T) (x : T)
    (message : List ℕ) → front ++ left ≡ whole → left ≡ x ∷ rest → unwritten x message
    → SomeUnwritten unwritten whole message
next_unwritten unwritten whole front left rest x message row next by =
    let all : front ++ x ∷ rest ≡ whole = subst (λ l. front ++ l ≡ whole) next row in
    let there : Contains whole x =
    subst (λ l. Contains l x) all (Contains-append_right front (x ∷ rest) x (0, omega arith, refl)) in
    (there.0, x, there.1, there.2, by)

-- What was written, where something was.
use Rattle.std.proofs.Common.{◌≡◌, Result, Ok, Err, refl, sym}
use Rattle.yaml_base.specs.declared.error.Cause.{Cause}
use Rattle.yaml_write.specs.Outcomes.{made, joined}

-- answers that are the same are answers of the same
pub same_answer : {A : Type 0} (a b : A) → ◌≡◌ {A = Result A Cause} (Ok a) (Ok b) → a ≡ b
same_answer a b h = cc

-- the part of what was made
pub made_ok : {A B : Type 0} (f : A → B) (r : Result A Cause) (b : B) → made f r ≡ Ok b
    → (a : A) × (r ≡ Ok a) × (b ≡ f a)
made_ok f (Ok a) b h = (a, refl, sym (same_answer _ _ h))
made_ok f (Err c) b h = absurd cc

-- both parts
pub joined_ok : {A B C : Type 0} (f : A → B → C) (r : Result A Cause) (s : Result B Cause) (c : C)
    → joined f r s ≡ Ok c → (a : A) × (b : B) × (r ≡ Ok a) × (s ≡ Ok b) × (c ≡ f a b)
joined_ok f (Ok a) (Ok b) c h = (a, b, refl, refl, sym (same_answer _ _ h))
joined_ok f (Ok a) (Err e) c h = absurd cc
joined_ok f (Err e) s c h = absurd cc

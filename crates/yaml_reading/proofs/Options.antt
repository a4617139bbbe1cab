-- What is known of an answer that was made of another.
use Rattle.std.proofs.Common.{◌≡◌, Bool, true, false, Option, Some, None, refl, ap}
use Rattle.std.specs.Prelude.{if◌then◌else◌, option_and_then, option_map}
use Rattle.std.proofs.lemmas.Option.{none-some}

-- an answer that another was made of
pub then_some : {A B : Type 0} (r : Option A) (f : A → Option B) (y : B) → option_and_then f r ≡ Some y
    → (x : A) × (r ≡ Some x) × (f x ≡ Some y)
then_some (Some x) f y h = (x, refl, h)
then_some None f y h = absurd (none-some y h)

pub map_some : {A B : Type 0} (r : Option A) (f : A → B) (y : B) → option_map f r ≡ Some y
    → (x : A) × (r ≡ Some x) × (f x ≡ y)
map_some (Some x) f y h = (x, refl, same h)
  where
    same : {z : _} → Some (f x) ≡ Some z → f x ≡ z
    same e = cc
map_some None f y h = absurd (none-some y h)

pub same_some : {A : Type 0} (x y : A) → Some x ≡ Some y → x ≡ y
same_some x y h = cc

pub no_some : {A : Type 0} (y : A) → ◌≡◌ {A = Option A} None (Some y) → ⊥
no_some y h = cc

-- the parts of a pair that was answered
pub pair_is : {A B : Type 0} (a b : A) (i j : B) → ◌≡◌ {A = Option (A × B)} (Some (a, i)) (Some (b, j))
    → (a ≡ b) × (i ≡ j)
pair_is {A} {B} a b i j h =
    let same = same_some {A = A × B} (a, i) (b, j) h in
    (ap (λ r. r.0) same, ap (λ r. r.1) same)

-- what holds of both ways
pub either : {A : Type 0} (P : A → Type 0) (b : Bool) (x y : A) → P x → P y → P (if b then x else y)
either P true x y p q = p
either P false x y p q = q

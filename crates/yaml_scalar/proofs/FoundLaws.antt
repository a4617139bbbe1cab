-- What a scalar is found to be tells its fault, and the value that it is.
use Rattle.std.proofs.Common.{◌≡◌, List, ℕ, Option, Some, None, Ok, Err, refl, rules}
use Rattle.std.specs.Option.{option_map_or}
use Rattle.yaml_meaning.specs.ScalarAny.{any_found, any_in}
use Rattle.yaml_meaning.specs.ScalarFound.{found_integer, fault_in}
use Rattle.yaml_meaning.specs.ScalarSorts.{PlainSort, tagged_int}
use Rattle.yaml_meaning.specs.Steps.{◌>>=◌}
use Rattle.yaml_scalar.specs.Expectations.{found_in, fault_by}

-- what is made of what is there, or of what stands for it
made : {A X Y : Type 0} (k : X → Y) (f : A → X) (o : Option A) (x : X)
    → option_map_or (λ a. k (f a)) o (k x) ≡ k (option_map_or f o x)
made k f None x = refl
made k f (Some a) x = refl

-- the fault of a scalar in a row
pub fault_found : (sort : PlainSort) (text expected : List ℕ)
    → fault_in sort text expected ≡ fault_by expected (found_in sort text)
fault_found tagged_int text expected = made (fault_by expected) (λ f. Ok f) (found_integer text) (Err _)
fault_found _ text expected = search rules

-- the value that a scalar in a row is
pub any_found_in : (sort : PlainSort) (text : List ℕ) → any_in sort text ≡ (found_in sort text >>= any_found)
any_found_in tagged_int text = made (λ r. r >>= any_found) (λ f. Ok f) (found_integer text) (Err _)
any_found_in _ text = search rules

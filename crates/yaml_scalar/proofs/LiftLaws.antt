-- What an answer within a reading says of what takes no memory.
use Rattle.std.proofs.Common.{◌≡◌, Result, Ok, Err, refl, ap}
use Rattle.yaml_meaning.specs.ReadFault.{ReadFault, PlainRefusal, refused}
use Rattle.yaml_meaning.specs.ReadingGives.{lift}
use Rattle.yaml_meaning.specs.Steps.{◌>>=◌}

-- data that was found is what is given
pub lifted : {A : Type 0} {x : A} (r : Result A ReadFault) → lift r ≡ Ok x → r ≡ Ok x
lifted {x = x} (Ok y) h = let e : y ≡ x = cc in ap Ok e
lifted (Err fault) h = absurd cc

-- what goes on from a fault is refused alike
pub lifted_fails : {A B : Type 0} (r : Result A ReadFault) (f : A → Result B ReadFault) (y : PlainRefusal)
    → lift r ≡ Err y → lift (r >>= f) ≡ Err y
lifted_fails (Ok x) f y h = absurd cc
lifted_fails (Err fault) f y h = ap Err cc

-- a refusal is that by the fault that is given
pub lifted_fault : {A : Type 0} (r : Result A ReadFault) (y : PlainRefusal) → lift r ≡ Err y
    → (fault : ReadFault) × (r ≡ Err fault) × (refused fault ≡ y)
lifted_fault (Ok x) y h = absurd cc
lifted_fault (Err fault) y h = (fault, refl, cc)

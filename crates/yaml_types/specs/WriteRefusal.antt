-- By which messages a value is not written: one that has parts by those of each part.
use Rattle.std.specs.Prelude.{ℕ, List, Any, Option, None, Some, ◌⊎◌}
use Rattle.yaml_base.specs.declared.error.Cause.{Cause}
use Rattle.yaml_base.specs.declared.error.Cause.TheVariants.{Custom, Memory}
use Rattle.yaml_types.specs.declared.choice.OneOf.{OneOf}
use Rattle.yaml_types.specs.declared.choice.OneOf.TheVariants.{First, Other}

-- the fault is one of these messages, or running out of memory
abbrev pub IsWriteRefusal : (List ℕ → Type 0) → Cause → Type 0
IsWriteRefusal unwritten Memory = Unit {0}
IsWriteRefusal unwritten (Custom message None) = unwritten message
IsWriteRefusal unwritten _ = ⊥

-- the content is not written
abbrev pub OptionUnwritten : {T : Type 0} → (T → List ℕ → Type 0) → Option T → List ℕ → Type 0
OptionUnwritten unwritten None message = ⊥
OptionUnwritten unwritten (Some x) message = unwritten x message

-- an element is not written
abbrev pub SomeUnwritten : {T : Type 0} → (T → List ℕ → Type 0) → List T → List ℕ → Type 0
SomeUnwritten unwritten xs message = Any (λ x. unwritten x message) xs

-- one of two is not written
abbrev pub PairUnwritten : {A B : Type 0} → (A → List ℕ → Type 0) → (B → List ℕ → Type 0) → A × B → List ℕ → Type 0
PairUnwritten first second x message = first x.0 message ⊎ second x.1 message

-- what the first variant holds is not written, or what one of the others does
abbrev pub OneOfUnwritten : {V C : Type 0} → (V → List ℕ → Type 0) → (C → List ℕ → Type 0) → OneOf V C → List ℕ → Type 0
OneOfUnwritten first others (First x) message = first x message
OneOfUnwritten first others (Other y) message = others y message

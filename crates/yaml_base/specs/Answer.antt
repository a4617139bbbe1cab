-- How a call that may fail is tied to what a definition gives: the value, the same fault, or want of memory.
use Rattle.std.specs.Prelude.{◌≡◌, Bool, true, false, Result, Ok, Err}
use Rattle.yaml_base.specs.declared.error.Cause.{Cause}
use Rattle.yaml_base.specs.declared.error.Cause.TheVariants.{Memory}

-- the fault is want of memory
abbrev pub is_memory : Cause → Bool
is_memory Memory = true
is_memory _ = false

-- the fault is the one that is given, unless it is want of memory
abbrev pub Fails : {Y : Type 0} → Cause → Result Y Cause → Type 0
Fails cause given = is_memory cause ≡ false → given ≡ Err cause

-- The call answered the value that is given, seen by a view; or the fault that is given; or want of memory.
abbrev pub Gives : {X Y : Type 0} → (X → Y) → Result X Cause → Result Y Cause → Type 0
Gives view (Ok x) given = given ≡ Ok (view x)
Gives view (Err cause) given = Fails cause given

-- The call answered one of the results that a statement allows, seen by a view; or want of memory.
abbrev pub Answers : {X Y : Type 0} → (X → Y) → Result X Cause → (Result Y Cause → Type 0) → Type 0
Answers view (Ok x) allowed = allowed (Ok (view x))
Answers view (Err cause) allowed = is_memory cause ≡ false → allowed (Err cause)

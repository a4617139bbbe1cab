-- How a call within a reading is tied to what a definition gives: the value, the same fault, or want of memory.
use Rattle.std.specs.Prelude.{◌≡◌, false, Result, Ok, Err}
use Rattle.yaml_meaning.specs.ReadFault.{ReadFault, PlainRefusal, refused, ran_out}

-- what takes no memory answers within a reading
abbrev pub lift : {A : Type 0} → Result A ReadFault → Result A PlainRefusal
lift (Ok x) = Ok x
lift (Err fault) = Err (refused fault)

-- it is the refusal by this fault, unless memory ran out
abbrev pub IsRefusedBy : PlainRefusal → ReadFault → Type 0
IsRefusedBy refusal fault = ran_out refusal ≡ false → refusal ≡ refused fault

-- the refusal is the one that is given, unless memory ran out
abbrev pub Refuses : {Y : Type 0} → PlainRefusal → Result Y PlainRefusal → Type 0
Refuses refusal given = ran_out refusal ≡ false → given ≡ Err refusal

-- The call answered the value that is given, seen by a view; or the fault that is given; or memory ran out.
abbrev pub GivesReading : {X Y : Type 0} → (X → Y) → Result X PlainRefusal → Result Y PlainRefusal → Type 0
GivesReading view (Ok x) given = given ≡ Ok (view x)
GivesReading view (Err refusal) given = Refuses refusal given

-- the same for what takes no memory
abbrev pub Yields : {X Y : Type 0} → (X → Y) → Result X PlainRefusal → Result Y ReadFault → Type 0
Yields view result given = GivesReading view result (lift given)

-- What was told, was told in some words of the system.
use Rattle.std.specs.Prelude.{OnOk}
use Rattle.std.specs.Io.KnownBytes.{Appends}
use Rattle.std.proofs.Common.{ℕ, List, Option, Result, Ok, Err}

pub in_words : {A E : Type 0} (result : Result A E) (old new : Option (List ℕ)) (line : List ℕ → List ℕ)
    (words : List ℕ) → OnOk result (Appends old new (line words))
    → OnOk result ((words : List ℕ) × Appends old new (line words))
in_words (Ok a) old new line words told = (words, told)
in_words (Err e) old new line words told = tt

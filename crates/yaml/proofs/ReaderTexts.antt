-- What holds of a text holds of what a reader gives, where that is known to be the text.
use Rattle.std.specs.Prelude.{IfSome}
use Rattle.std.proofs.Common.{◌≡◌, List, Option, None, Some, ℕ, subst}

pub of_reader : (remaining : Option (List ℕ)) (text : List ℕ) (P : List ℕ → Type 0)
    → IfSome remaining (λ given. text ≡ given) → P text → IfSome remaining P
of_reader None text P same holds = tt
of_reader (Some given) text P same holds = subst P same holds

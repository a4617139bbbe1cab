-- What a run prints, from the reply to its input.
use Rattle.std.specs.Prelude.{Option, None, Some, IfSome, IfOk, IfErr, Result, Ok, Err}
use Rattle.std.proofs.Common.{◌≡◌, ◌≢◌, ℕ, List, [], refl, sym, ◌∙◌}
use Rattle.yaml_run.specs.Printed.{line_of, status_of, Prints}
use Rattle.yaml_run.specs.declared.answer.Answer.{Answer}
use Rattle.yaml_run.specs.declared.status.Status.{Status}
use Rattle.yaml_run.specs.declared.status.Status.TheVariants as status

-- an input that is the known one, if one is known
pub some_input : (known : Option (List ℕ)) → (input : List ℕ) × IfSome known (λ bytes. input ≡ bytes)
some_input None = ([], tt)
some_input (Some input) = (input, refl)

-- an answer that is one to an input that is the known one, if one is known
abbrev pub Answered : Option (List ℕ) → (List ℕ → Status → List ℕ → Type 0) → Answer → Type 0
Answered known Is answer = (input : List ℕ) × IfSome known (λ bytes. input ≡ bytes)
    × Is input (status_of answer) (line_of answer)

-- what a run prints that concludes a reply
pub concluded : {E : Type 0} (Same : Type 0) (known old new : Option (List ℕ)) (P : List ℕ → Status → List ℕ → Type 0)
    (r : Result Answer E) (result : Status)
    → IfOk r (Answered known P) → IfOk r (λ a. Prints old new (line_of a) (status_of a) result)
    → IfErr r (λ e. (result ≡ status.ReadFailed) × Same) → result ≢ status.ReadFailed
    → (text : List ℕ) × (input : List ℕ) × (ended : Status) × IfSome known (λ bytes. input ≡ bytes)
    × P input ended text × Prints old new text ended result
concluded Same known old new P (Ok a) result h prints err read = (line_of a, h.0, status_of a, h.1, h.2, prints)
concluded Same known old new P (Err e) result h prints err read = absurd (read err.0)

-- what was printed ends no run as a failed read
pub printed-read : (old new : Option (List ℕ)) (line : List ℕ) (ended result : Status) → Prints old new line ended result
    → ended ≢ status.ReadFailed → result ≢ status.ReadFailed
printed-read old new line ended result p apart = λ f.
    apart (sym (p (λ w. let same = sym f ∙ w in absurd cc)).0 ∙ f)

-- where the run ends as a failed read, there is no reply
pub concluded-unread : {E Same : Type 0} (known old new : Option (List ℕ)) (P : List ℕ → Status → List ℕ → Type 0)
    (r : Result Answer E) (result : Status)
    → ((input : List ℕ) (ended : Status) (text : List ℕ) → P input ended text → ended ≢ status.ReadFailed)
    → IfOk r (Answered known P) → IfOk r (λ a. Prints old new (line_of a) (status_of a) result)
    → IfErr r (λ e. (result ≡ status.ReadFailed) × Same) → result ≡ status.ReadFailed → Same
concluded-unread known old new P (Ok a) result apart h prints err f =
    absurd (printed-read old new _ _ result prints (apart _ _ _ h.2) f)
concluded-unread known old new P (Err e) result apart h prints err f = err.1

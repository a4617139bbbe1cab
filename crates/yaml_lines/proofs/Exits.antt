-- What an early return tells: what was not there, and the fault that is passed on.
use Rattle.std.specs.Prelude.{MatchOption, MatchResult, IsErr, IsErrAnd, Option, Result, Ok, Err}
use Rattle.std.specs.Result.{result_ok}
use Rattle.std.proofs.Common.{◌≡◌, sym, ◌∙◌, ap, subst}
use Rattle.yaml_lines.specs.declared.fault.LineFault.{LineFault}
use Rattle.yaml_lines.specs.declared.fault.LineFault.TheVariants.{Bad}

-- what a look-up says of the thing that it didn't find, where a fault stands for that
pub absent : {X E : Type 0} (A : Type 0) (B : X → Type 0) (found : Option X) (r : Result X E) (e : E)
    → MatchOption found A B → found ≡ result_ok r → r ≡ Err e → A
absent A B found r e h same is = subst (λ o. MatchOption o A B) (same ∙ ap result_ok is) h

-- and of the thing that it found
pub present : {X E : Type 0} (A : Type 0) (B : X → Type 0) (found : Option X) (r : Result X E) (x : X)
    → MatchOption found A B → found ≡ result_ok r → r ≡ Ok x → B x
present A B found r x h same is = subst (λ o. MatchOption o A B) (same ∙ ap result_ok is) h

-- an early return with the fault of a bad line, where nothing of the kind is said
pub refused : {X Q : Type 0} (P : X → Type 0) (r : Result X LineFault) → IsErr r → Q
    → MatchResult r P (λ fault. fault ≡ Bad → Q)
refused P (Ok x) h none = absurd cc
refused P (Err e) h none = λ bad. none

-- an early return with the fault of a part
pub passed : {X Q : Type 0} (P : X → Type 0) (r : Result X LineFault) (fault : LineFault) → IsErrAnd r (λ e. e ≡ fault)
    → (fault ≡ Bad → Q)
    → MatchResult r P (λ e. e ≡ Bad → Q)
passed P (Ok x) fault h none = absurd h
passed P (Err e) fault h none = λ bad. none (sym h ∙ bad)

-- What a run prints, from what its parts say.
use Rattle.std.specs.Prelude.{codes, Option, IfSome, IfOk, IfErr, Result, Ok, Err}
use Rattle.std.proofs.Common.{◌≡◌, ◌≢◌, ℕ, List, [], ◌∷◌, ◌++◌, length, map, subst, refl, sym, ap, ◌∙◌, get_or, arith}
use Rattle.std.proofs.lemmas.List.{length-map}
use Rattle.yaml_read.specs.TreeReader.{PlainLimits, default_limits}
use Rattle.yaml_run.specs.EventReadings.IsReading.{out_of_memory}
use Rattle.yaml_run.specs.Printed.{line_of, status_of, Prints}
use Rattle.yaml_run.specs.Shapes.{name_of, table_of, first_shape, IsNoName}
use Rattle.yaml_run.specs.declared.answer.Answer.{Answer}
use Rattle.yaml_run.specs.declared.shapes.Named.{Named}
use Rattle.yaml_run.specs.declared.status.Status.{Status}
use Rattle.yaml_run.specs.declared.status.Status.TheVariants as status
use Rattle.yaml_run.proofs.ReadingLaws.{lines-read}
use Rattle.yaml_run.proofs.RunLaws as run
use Rattle.yaml_case.specs.Arguments.{WriteLimits, AskForNothing}
use Rattle.yaml_case.specs.Arguments.Ask.{shape_alone, shape_within}
use Rattle.yaml_case.specs.Replies.{IsReply, IsAnswerByName, IsAnswerTo}
use Rattle.yaml_case.specs.Replies.IsAnswerByName.{bad_argument, reply}
use Rattle.yaml_case.specs.Replies.IsAnswerTo.{bad_arguments, asked}

-- no input matters to a bad argument
pub refuses : (name : List ℕ) (limits : PlainLimits) (input : List ℕ) (ended : Status) → IsNoName name → ended
    ≡ status.Refused
    → IsAnswerByName name limits input ended (codes "bad argument")
refuses name limits input ended none e = bad_argument none e refl

-- nor to the want of memory
pub wants_memory : (shape : Named) (name : List ℕ) (limits : PlainLimits) (input : List ℕ) (ended : Status)
    → name_of shape ≡ name
    → ended ≡ status.Fault → IsAnswerByName name limits input ended (codes "fault: out of memory")
wants_memory shape name limits input ended n e = reply shape n (out_of_memory e refl)

-- a reply to an input answers the name of its shape
pub replies : (shape : Named) (name : List ℕ) (limits : PlainLimits) (input : List ℕ) (ended : Status) (text : List ℕ)
    → name_of shape ≡ name → IsReply shape limits input ended text → IsAnswerByName name limits input ended text
replies shape name limits input ended text n r = reply shape n r

-- arguments that ask for nothing are refused
pub refuses_all : (arguments : List (List ℕ)) (input : List ℕ) (ended : Status) → AskForNothing arguments → ended
    ≡ status.Refused
    → IsAnswerTo arguments input ended (codes "bad argument")
refuses_all arguments input ended none e = bad_arguments none e refl

-- one argument, and three
pub one_argument : {X : Type 0} (name_in : X → List ℕ) (arguments : List X) (first : X) → length arguments ≡ 1
    → first ≡ get_or arguments 0 first → map name_in arguments ≡ name_in first ∷ []
one_argument name_in [] first one at = absurd cc
one_argument name_in (x ∷ []) first one at = ap (λ a. name_in a ∷ []) (sym at)
one_argument name_in (x ∷ y ∷ more) first one at = absurd (omega (arith, one))

pub three_arguments : {X : Type 0} (name_in : X → List ℕ) (arguments : List X) (first second third : X)
    → length arguments ≡ 3
    → first ≡ get_or arguments 0 first → second ≡ get_or arguments 1 second → third ≡ get_or arguments 2 third
    → map name_in arguments ≡ name_in first ∷ name_in second ∷ name_in third ∷ []
three_arguments name_in [] first second third three a b c = absurd cc
three_arguments name_in (x ∷ []) first second third three a b c = absurd (omega (arith, three))
three_arguments name_in (x ∷ y ∷ []) first second third three a b c = absurd (omega (arith, three))
three_arguments name_in (x ∷ y ∷ z ∷ []) first second third three a b c =
    rw a (rw b (rw c refl))
three_arguments name_in (x ∷ y ∷ z ∷ w ∷ more) first second third three a b c = absurd (omega (arith, three))

-- another number of arguments than one or three asks for nothing
none_asked : (words : List (List ℕ)) → length words ≢ 1 → length words ≢ 3 → AskForNothing words
none_asked words one three shape limits (shape_alone e d) = one (ap length e)
none_asked words one three shape limits (shape_within nesting follows e w) = three (ap length e)

pub another_count : {X : Type 0} (name_in : X → List ℕ) (arguments : List X) → length arguments ≢ 1
    → length arguments ≢ 3
    → AskForNothing (map name_in arguments)
another_count name_in arguments one three =
    none_asked (map name_in arguments) (λ e. one (sym (length-map arguments name_in) ∙ e))
    (λ e. three (sym (length-map arguments name_in) ∙ e))

-- the first of equal lists of texts
first_of : (a b : List (List ℕ)) → a ≡ b → get_or a 0 [] ≡ get_or b 0 []
first_of a b e = ap (λ (l : List (List ℕ)). get_or l 0 []) e

-- a name alone that is none asks for nothing, and one that asks for nothing is none
pub unknown_alone : (words : List (List ℕ)) (name : List ℕ) → words ≡ name ∷ [] → IsNoName name → AskForNothing words
unknown_alone words name is none shape limits (shape_alone e d) = none shape (first_of _ _ (sym e ∙ is))
unknown_alone words name is none shape limits (shape_within nesting follows e w) = let same = sym is ∙ e in absurd cc

pub none_alone : (words : List (List ℕ)) (name : List ℕ) → words ≡ name ∷ [] → AskForNothing words → IsNoName name
none_alone words name is none = λ shape e. none shape default_limits (shape_alone (is ∙ ap (λ n. n ∷ []) (sym e)) refl)

-- a name alone is answered within the default's limits
pub answers_alone : (words : List (List ℕ)) (name input : List ℕ) (ended : Status) (text : List ℕ) → words ≡ name ∷ []
    → IsAnswerByName name default_limits input ended text → IsAnswerTo words input ended text
answers_alone words name input ended text is (bad_argument none e t) =
    bad_arguments (unknown_alone words name is none) e t
answers_alone words name input ended text is (reply shape named r) =
    asked shape default_limits (shape_alone (is ∙ ap (λ n. n ∷ []) (sym named)) refl) r

module _ (words : List (List ℕ)) (name nesting follows : List ℕ) (is : words ≡ name ∷ nesting ∷ follows ∷ []) where
  -- the same of a name with limits
  pub unknown_within : IsNoName name → AskForNothing words
  unknown_within none shape limits (shape_alone e d) = let same = sym is ∙ e in absurd cc
  unknown_within none shape limits (shape_within a b e w) = none shape (first_of _ _ (sym e ∙ is))

  pub none_within : (limits : PlainLimits) → WriteLimits nesting follows limits → AskForNothing words → IsNoName name
  none_within limits w none = λ shape e.
      none shape limits (shape_within nesting follows (is ∙ ap (λ n. n ∷ nesting ∷ follows ∷ []) (sym e)) w)

  -- no limits are none that are asked for
  pub no_limits : ((limits : PlainLimits) → ¬ (WriteLimits nesting follows limits)) → AskForNothing words
  no_limits none shape limits (shape_alone e d) = let same = sym is ∙ e in absurd cc
  no_limits none shape limits (shape_within a b e w) =
      let same = sym e ∙ is in
      let first = ap (λ (l : List (List ℕ)). get_or l 1 []) same in
      let second = ap (λ (l : List (List ℕ)). get_or l 2 []) same in
      none limits (subst (λ x. WriteLimits nesting x limits) second (subst (λ x. WriteLimits x b limits) first w))

  -- and a name with limits is answered within them
  pub answers_within : (limits : PlainLimits) (input : List ℕ) (ended : Status) (text : List ℕ)
      → WriteLimits nesting follows limits → IsAnswerByName name limits input ended text
      → IsAnswerTo words input ended text
  answers_within limits input ended text w (bad_argument none e t) = bad_arguments (unknown_within none) e t
  answers_within limits input ended text w (reply shape named r) =
      asked shape limits (shape_within nesting follows (is ∙ ap (λ n. n ∷ nesting ∷ follows ∷ []) (sym named)) w) r

-- an answer to a name, or to arguments, is no failed read
pub answer-read : (name : List ℕ) (limits : PlainLimits) (input : List ℕ) (ended : Status) (text : List ℕ)
    → IsAnswerByName name limits input ended text → ended ≢ status.ReadFailed
answer-read name limits input ended text (bad_argument none e t) = λ f. let same = sym e ∙ f in absurd cc
answer-read name limits input ended text (reply shape named r) =
    lines-read limits (table_of shape) (first_shape shape) input ended text r

pub answer_to-read : (words : List (List ℕ)) (input : List ℕ) (ended : Status) (text : List ℕ)
    → IsAnswerTo words input ended text → ended ≢ status.ReadFailed
answer_to-read words input ended text (bad_arguments none e t) = λ f. let same = sym e ∙ f in absurd cc
answer_to-read words input ended text (asked shape limits ask r) =
    lines-read limits (table_of shape) (first_shape shape) input ended text r

-- an answer has a text for an input that is the known one, if one is known
abbrev pub Answered : Option (List ℕ) → (List ℕ → Status → List ℕ → Type 0) → Answer → Type 0
Answered known Is answer = (text : List ℕ) × (input : List ℕ) × (line_of answer ≡ text ++ 10 ∷ [])
    × IfSome known (λ bytes. input ≡ bytes) × Is input (status_of answer) text

-- the same, said otherwise
pub answered_as : {E : Type 0} (known : Option (List ℕ)) (P Q : List ℕ → Status → List ℕ → Type 0)
    (r : Result Answer E)
    → ((input : List ℕ) (ended : Status) (text : List ℕ) → P input ended text → Q input ended text)
    → IfOk r (Answered known P) → IfOk r (Answered known Q)
answered_as known P Q (Ok a) f h = (h.0, h.1, h.2, h.3, f _ _ _ h.4)
answered_as known P Q (Err e) f h = h

-- what is printed is a text with a line feed behind it
abbrev pub AsLine : (List ℕ → Status → List ℕ → Type 0) → List ℕ → Status → List ℕ → Type 0
AsLine Is input ended line = (text : List ℕ) × (line ≡ text ++ 10 ∷ []) × Is input ended text

as_line : {E : Type 0} (known : Option (List ℕ)) (P : List ℕ → Status → List ℕ → Type 0) (r : Result Answer E)
    → IfOk r (Answered known P) → IfOk r (run.Answered known (AsLine P))
as_line known P (Ok a) h = (h.1, h.3, (h.0, h.2, h.4))
as_line known P (Err e) h = h

-- what a run prints that concludes a reply
pub concluded : {E : Type 0} (Same : Type 0) (known old new : Option (List ℕ)) (P : List ℕ → Status → List ℕ → Type 0)
    (r : Result Answer E) (result : Status)
    → IfOk r (Answered known P) → IfOk r (λ a. Prints old new (line_of a) (status_of a) result)
    → IfErr r (λ e. (result ≡ status.ReadFailed) × Same) → result ≢ status.ReadFailed
    → (text : List ℕ) × (input : List ℕ) × (ended : Status) × IfSome known (λ bytes. input ≡ bytes)
    × P input ended text × Prints old new (text ++ 10 ∷ []) ended result
concluded Same known old new P r result h prints err read =
    let c = run.concluded Same known old new (AsLine P) r result (as_line known P r h) prints err read in
    let line = c.4 in
    (line.0, c.1, c.2, c.3, line.2, subst (λ l. Prints old new l c.2 result) line.1 c.5)

-- where the run ends as a failed read, there is no reply
pub concluded-unread : {E Same : Type 0} (known old new : Option (List ℕ)) (P : List ℕ → Status → List ℕ → Type 0)
    (r : Result Answer E) (result : Status)
    → ((input : List ℕ) (ended : Status) (text : List ℕ) → P input ended text → ended ≢ status.ReadFailed)
    → IfOk r (Answered known P) → IfOk r (λ a. Prints old new (line_of a) (status_of a) result)
    → IfErr r (λ e. (result ≡ status.ReadFailed) × Same) → result ≡ status.ReadFailed → Same
concluded-unread known old new P r result apart h prints err =
    run.concluded-unread known old new (AsLine P) r result (λ input ended line p. apart input ended p.0 p.2)
    (as_line known P r h) prints err

-- Where memory runs out, that is told.
use Rattle.std.specs.Prelude.{codes, IfOk, Result, Ok, Err}
use Rattle.std.proofs.Common.{◌≡◌, ℕ, List, [], ◌∷◌, ◌++◌, refl}
use Rattle.std.specs.Result.{result_unwrap_or}
use Rattle.yaml_case.specs.Replies.{IsReply}
use Rattle.yaml_run.specs.EventReadings.IsReading.{out_of_memory}
use Rattle.yaml_run.specs.Printed.{line_of, status_of}
use Rattle.yaml_run.specs.declared.answer.Answer.{Answer}
use Rattle.yaml_run.specs.declared.answer.Answer.TheVariants.{OutOfMemory}
use Rattle.yaml_run.specs.declared.shapes.Named.{Named}
use Rattle.yaml_read.specs.TreeReader.{PlainLimits}
use Rattle.yaml_case.proofs.answer.answer_to.Goals as goal

-- an answer that was made, or else that memory ran out
made_or : {E : Type 0} (shape : Named) (limits : PlainLimits) (input : List ℕ) (r : Result Answer E)
    → IfOk r (λ a. (text : List ℕ) × (line_of a ≡ text ++ 10 ∷ []) × IsReply shape limits input (status_of a) text)
    → (text : List ℕ) × (line_of (result_unwrap_or r OutOfMemory) ≡ text ++ 10 ∷ [])
    × IsReply shape limits input (status_of (result_unwrap_or r OutOfMemory)) text
made_or shape limits input (Ok a) made = made
made_or shape limits input (Err e) made = (codes "fault: out of memory", refl, out_of_memory refl refl)

pub returns : goal.returns
returns c = rw c.unwrap_or.ensures
    (made_or c.args.named c.args.limits c.args.input.now c.made_of.result c.made_of.ensures)

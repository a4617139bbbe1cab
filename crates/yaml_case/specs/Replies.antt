-- What a run prints.
use Rattle.std.specs.Prelude.{ℕ, ◌≡◌, List, codes}
use Rattle.yaml_read.specs.TreeReader.{PlainLimits}
use Rattle.yaml_run.specs.EventReadings.{IsReading}
use Rattle.yaml_run.specs.Shapes.{name_of, IsNoName, table_of, first_shape}
use Rattle.yaml_run.specs.declared.shapes.Named.{Named}
use Rattle.yaml_run.specs.declared.status.Status.{Status}
use Rattle.yaml_run.specs.declared.status.Status.TheVariants as status
use Rattle.yaml_case.specs.Arguments.{Ask, AskForNothing}

-- the status and the text that stand for an input whose lines are read as a named shape within limits
abbrev pub IsReply : (shape : Named) → PlainLimits → (input : List ℕ) → (ended : Status) → (text : List ℕ) → Type 0
IsReply shape limits input ended text = IsReading limits (table_of shape) (first_shape shape) input ended text

-- the same for a name, limits and an input
pub data IsAnswerByName (name : List ℕ) (limits : PlainLimits) (input : List ℕ) (ended : Status)
    (text : List ℕ) : Type 0 where
  bad_argument : IsNoName name → ended ≡ status.Refused → text ≡ codes "bad argument"
      → IsAnswerByName name limits input ended text
  reply : (shape : Named) → name_of shape ≡ name → IsReply shape limits input ended text
      → IsAnswerByName name limits input ended text

-- the same for the arguments of the program and an input
pub data IsAnswerTo (arguments : List (List ℕ)) (input : List ℕ) (ended : Status) (text : List ℕ) : Type 0 where
  bad_arguments : AskForNothing arguments → ended ≡ status.Refused → text ≡ codes "bad argument"
      → IsAnswerTo arguments input ended text
  asked : (shape : Named) (limits : PlainLimits) → Ask arguments shape limits → IsReply shape limits input ended text
      → IsAnswerTo arguments input ended text

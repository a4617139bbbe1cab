-- A text that is read event by event.
use Rattle.std.specs.Prelude.{Bool, ℕ, List}
use Rattle.yaml_base.specs.Position.{Position}
use Rattle.yaml_base.specs.declared.event.Event.{Event}

-- the text, the events that were handed out, how many were read and not handed out, and whether it was said that no
-- more come
pub record PlainReading : Type 0 where
  pub text : List ℕ
  pub given : List (Event × Position)
  pub waiting : ℕ
  pub over : Bool

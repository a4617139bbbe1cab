-- A tape that is handed out event by event.
use Rattle.std.specs.Prelude.{List, Option, ℕ}
use Rattle.yaml_base.specs.PlainEvent.{PlainEvent}
use Rattle.yaml_base.specs.Position.{Position}
use Rattle.yaml_base.specs.declared.event.Event.{Event}
use Rattle.yaml_checked.specs.declared.place.Refusal.{Refusal}
use Rattle.yaml_direct.specs.declared.document.Documents.{Documents}

-- The text, the events that were handed out, those that stand on the tape behind them, the documents that are read
-- behind these, and why no event was handed out, once that was so.
pub record PlainTape : Type 0 where
  pub text : List ℕ
  pub given : List (Event × Position)
  pub ahead : List (PlainEvent × Position)
  pub documents : Option Documents
  pub refused : Option Refusal

-- a place in a text: the events that were handed out before it
pub record PlainPlace : Type 0 where
  pub text : List ℕ
  pub given : List (Event × Position)

-- A document, as contracts see it.
use Rattle.std.specs.Prelude.{List, Option}
use Rattle.yaml_base.specs.PlainDocEvent.{PlainDocEvent}
use Rattle.yaml_base.specs.Position.{Position}
use Rattle.yaml_base.specs.declared.error.Cause.{Cause}

-- its events with their marks, and the fault that cut it off, if one did
pub record PlainDocument : Type 0 where
  pub events : List (PlainDocEvent × Position)
  pub ending : Option Cause

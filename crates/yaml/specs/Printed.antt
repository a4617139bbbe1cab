-- The text of a stream of events.
use Rattle.std.specs.Prelude.{ℕ, List, Option}
use Rattle.std.specs.Io.KnownBytes.{Appends}
use Rattle.yaml_base.specs.EmitEvents.{PlainEmit}
use Rattle.yaml_base.specs.EmitTree.{IsEmitStream}
use Rattle.yaml_emit.specs.StreamTexts.{IsStreamText}

-- the text of a whole stream of events was added to what a writer is known to hold
pub record AddsText (old new : Option (List ℕ)) : Type 0 where
  pub events : List PlainEmit
  pub whole : IsEmitStream events
  pub text : List ℕ
  pub printed : IsStreamText events text
  pub adds : Appends old new text

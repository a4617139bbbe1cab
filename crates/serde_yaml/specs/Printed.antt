-- When a value has a text, and how it is refused.
use Rattle.std.specs.Prelude.{◌≡◌, ℕ, List, Option, None, Result, Ok, Err}
use Rattle.std.specs.Io.KnownBytes.{Appends}
use Rattle.yaml_base.specs.EmitEvents.{PlainEmit}
use Rattle.yaml_base.specs.declared.error.Cause.{Cause}
use Rattle.yaml_base.specs.declared.error.Cause.TheVariants.{NotAStream}
use Rattle.yaml_emit.specs.StreamTexts.{IsStreamText}
use Rattle.yaml_shape.specs.PlainData.{PlainData}
use Rattle.yaml_shape.specs.PlainShape.{PlainShape}
use Rattle.yaml_write.specs.Outcomes.{made}
use Rattle.yaml_write.specs.Written.{written}
use Rattle.serde_yaml.specs.TypedWrites.{written_stream}

-- it was written as some events
pub data HasEvents (Writes : Result (List PlainEmit) Cause → Type 0) : Type 0 where
  written_as : (events : List PlainEmit) → Writes (Ok events) → HasEvents Writes

-- it was written as some events, and this is their text
pub data HasText (Writes : Result (List PlainEmit) Cause → Type 0) (text : List ℕ) : Type 0 where
  printed_as : (events : List PlainEmit) → Writes (Ok events) → IsStreamText events text → HasText Writes text

-- it was written as some events, and their text was added to what a writer is known to hold
pub data AddsText (Writes : Result (List PlainEmit) Cause → Type 0) (old new : Option (List ℕ)) : Type 0 where
  added : (text : List ℕ) → HasText Writes text → Appends old new text → AddsText Writes old new

-- an event stands where none may
pub data IsOutOfPlace : Cause → Type 0 where
  out_of_place : (place : ℕ) → IsOutOfPlace (NotAStream place)

-- it was not written, or its events are no stream
pub data IsTextRefused (Writes : Result (List PlainEmit) Cause → Type 0) : Cause → Type 0 where
  not_written : (cause : Cause) → Writes (Err cause) → IsTextRefused Writes cause
  not_printed : (cause : Cause) → IsOutOfPlace cause → IsTextRefused Writes cause

-- what data of a shape is written as
abbrev pub IsDataWritten : List PlainShape → (id : ℕ) → PlainData → Result (List PlainEmit) Cause → Type 0
IsDataWritten table id d outcome = made written_stream (written table id None d) ≡ outcome

-- What something is written as where ambiguous texts are to stand between quotes.
use Rattle.std.specs.Prelude.{List, Result, Ok, Err, map}
use Rattle.yaml_base.specs.EmitEvents.{PlainEmit}
use Rattle.yaml_base.specs.declared.error.Cause.{Cause}
use Rattle.yaml_ambiguous.specs.Quoting.{unambiguous}

-- the events that it is written as, with those quotes asked for; what is refused is refused so
pub data Quotes (Writes : Result (List PlainEmit) Cause → Type 0) : Result (List PlainEmit) Cause → Type 0 where
  quoted : (events : List PlainEmit) → Writes (Ok events) → Quotes Writes (Ok (map unambiguous events))
  refused : (cause : Cause) → Writes (Err cause) → Quotes Writes (Err cause)

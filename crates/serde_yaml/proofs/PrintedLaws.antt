-- What is written is a stream.
use Rattle.std.proofs.Common.{◌≡◌, ℕ, List, [], ◌∷◌, ap, sym, refl, Result, Ok, Err}
use Rattle.yaml_base.specs.EmitEvents.{PlainEmit}
use Rattle.yaml_base.specs.EmitTree.{EmitNode, IsEmitStream}
use Rattle.yaml_base.specs.declared.error.Cause.{Cause}
use Rattle.yaml_shape.specs.PlainData.{PlainData}
use Rattle.yaml_types.specs.Start.{Start}
use Rattle.yaml_write.specs.Outcomes.{made}
use Rattle.serde_yaml.specs.TypedWrites.{TypeWrites, no_shape, of_shape, by_message, written_stream}

-- the events, or none
abbrev events_or_none : Result (List PlainEmit) Cause → List PlainEmit
events_or_none (Ok events) = events
events_or_none (Err cause) = []

-- what data is written as is a stream
pub data_stream : (w : Result EmitNode Cause) (events : List PlainEmit) → made written_stream w ≡ Ok events
    → IsEmitStream events
data_stream (Ok root) events is = (root ∷ [], sym (ap events_or_none is))
data_stream (Err cause) events is = absurd (cc)

-- what a value of a type is written as is a stream
type_stream_at : (start : Start) (d : PlainData) (unwritten : List ℕ → Type 0)
    (outcome : Result (List PlainEmit) Cause) (events : List PlainEmit)
    → TypeWrites start d unwritten outcome → outcome ≡ Ok events → IsEmitStream events
type_stream_at start d unwritten _ events (no_shape few) is = absurd (cc)
type_stream_at start d unwritten _ events (of_shape valid) is = data_stream _ events is
type_stream_at start d unwritten _ events (by_message message by) is = absurd (cc)

-- the same of the events that it is written as
pub type_stream : (start : Start) (d : PlainData) (unwritten : List ℕ → Type 0) (events : List PlainEmit)
    → TypeWrites start d unwritten (Ok events) → IsEmitStream events
type_stream start d unwritten events writes = type_stream_at start d unwritten (Ok events) events writes refl

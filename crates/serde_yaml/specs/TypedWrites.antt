-- What a value of a type is written as.
use Rattle.std.specs.Prelude.{◌<◌, ◌++◌, ℕ, List, [], ◌∷◌, length, None, Result, Err}
use Rattle.yaml_base.specs.EmitEvents.{PlainEmit, emit_stream_start, emit_stream_end}
use Rattle.yaml_base.specs.EmitTree.{EmitNode, emit_documents_events}
use Rattle.yaml_base.specs.declared.error.Cause.{Cause}
use Rattle.yaml_base.specs.declared.error.Cause.TheVariants.{Custom}
use Rattle.yaml_shape.specs.PlainData.{PlainData}
use Rattle.yaml_shape.specs.Validity.{IsValidSchema}
use Rattle.yaml_write.specs.Outcomes.{made}
use Rattle.yaml_write.specs.Written.{written}
use Rattle.yaml_types.specs.Start.{Start}
use Rattle.serde_yaml.specs.TypedReads.{no_schema}

-- the events that a stream of one document is written as
abbrev pub written_stream : EmitNode → List PlainEmit
written_stream root = emit_stream_start ∷ (emit_documents_events (root ∷ []) ++ emit_stream_end ∷ [])

-- What the data of a value is written as, by the type's shape: a stream with it as the only document, unless it is
-- refused. Or the value is refused by a message of its type, which becomes the fault. A type that has no schema writes
-- nothing.
pub data TypeWrites (start : Start) (d : PlainData) (unwritten : List ℕ → Type 0)
    : Result (List PlainEmit) Cause → Type 0 where
  no_shape : 4096 < length start.0 → TypeWrites start d unwritten (Err no_schema)
  of_shape : IsValidSchema start.0
      → TypeWrites start d unwritten (made written_stream (written start.0 start.1 None d))
  by_message : (message : List ℕ) → unwritten message → TypeWrites start d unwritten (Err (Custom message None))

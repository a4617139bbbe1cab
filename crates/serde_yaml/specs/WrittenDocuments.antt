-- What several values of a type are written as: a stream with a document for each.
use Rattle.std.specs.Prelude.{◌≡◌, ◌<◌, ◌++◌, ℕ, List, [], ◌∷◌, length, None, Result, Ok, Err}
use Rattle.yaml_base.specs.EmitEvents.{PlainEmit}
use Rattle.yaml_base.specs.EmitTree.{EmitNode}
use Rattle.yaml_base.specs.declared.error.Cause.{Cause}
use Rattle.yaml_emit.specs.StreamTexts.{emit_stream_events}
use Rattle.yaml_shape.specs.PlainData.{PlainData}
use Rattle.yaml_shape.specs.Validity.{IsValidSchema}
use Rattle.yaml_write.specs.Written.{written}
use Rattle.yaml_types.specs.Start.{Start}
use Rattle.serde_yaml.specs.TypedReads.{no_schema}
use Rattle.serde_yaml.specs.TypedWrites.{TypeWrites}

-- the values' data is written as these nodes, one for each, in order
abbrev pub AreWrittenAs : Start → {T : Type 0} → (T → PlainData) → List T → List EmitNode → Type 0
AreWrittenAs start view [] [] = Unit {0}
AreWrittenAs start view (x ∷ xs) (root ∷ roots) =
    (written start.0 start.1 None (view x) ≡ Ok root) × AreWrittenAs start view xs roots
AreWrittenAs start view _ _ = ⊥

-- one of the values is refused by itself for this cause, and those before it are written
pub record IsFirstRefusal (start : Start) {T : Type 0} (view : T → PlainData) (unwritten : T → List ℕ → Type 0)
    (xs : List T) (cause : Cause) : Type 0 where
  pub before : List T
  pub value : T
  pub after : List T
  pub split : xs ≡ before ++ value ∷ after
  pub roots : List EmitNode
  pub written_before : AreWrittenAs start view before roots
  pub refused : TypeWrites start (view value) (unwritten value) (Err cause)

-- What the data of values is written as, by the type's shape: a stream of documents, one for each, in order; or why the
-- first is refused that is not written. A type that has no schema writes nothing.
pub data TypeWritesAll (start : Start) {T : Type 0} (view : T → PlainData) (unwritten : T → List ℕ → Type 0)
    (xs : List T) : Result (List PlainEmit) Cause → Type 0 where
  no_shape : 4096 < length start.0 → TypeWritesAll start view unwritten xs (Err no_schema)
  of_shape : (roots : List EmitNode) → IsValidSchema start.0 → AreWrittenAs start view xs roots
      → TypeWritesAll start view unwritten xs (Ok (emit_stream_events roots))
  refused : (cause : Cause) → IsFirstRefusal start view unwritten xs cause
      → TypeWritesAll start view unwritten xs (Err cause)

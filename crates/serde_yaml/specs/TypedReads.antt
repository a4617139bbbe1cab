-- What an input gives as a value of a type.
use Rattle.std.specs.Prelude.{◌≡◌, ◌<◌, ℕ, List, length, Option, None, Some, Result, Ok, Err, codes}
use Rattle.yaml_base.specs.PlainFault.{PlainFault}
use Rattle.yaml_base.specs.declared.error.Cause.{Cause}
use Rattle.yaml_base.specs.declared.error.Cause.TheVariants.{Custom}
use Rattle.yaml_shape.specs.PlainData.{PlainData}
use Rattle.yaml_shape.specs.PlainShape.{PlainShape, shape_at}
use Rattle.yaml_shape.specs.Validity.{IsValidSchema}
use Rattle.yaml_read.specs.Documents.{Input}
use Rattle.yaml_read.specs.TreeReader.{PlainLimits}
use Rattle.yaml_types.specs.Start.{Start}
use Rattle.serde_yaml.specs.StreamReads.{InputGives}

-- a type whose table would have more than 4,096 shapes has no schema
abbrev pub no_schema : Cause
no_schema = Custom (codes "more than 4096 shapes") None

-- What a type makes of what was read: of data a value that is the data's, or one of the messages by which the type
-- refuses the data; and a fault stays.
abbrev pub Makes : {T : Type 0} → (built : PlainData → T → Type 0) → (refused : PlainData → List ℕ → Type 0)
    → (read : Result PlainData Cause) → (given : Result T Cause) → Type 0
Makes built refused (Ok d) (Ok x) = built d x
Makes built refused (Ok d) (Err cause) = (message : List ℕ) × refused d message × (cause ≡ Custom message None)
Makes built refused (Err cause) given = given ≡ Err cause

-- What an input gives as a value of a type within limits: what the type makes of the data, or of the fault, that the
-- input gives under the type's shape. A type that has no schema gives nothing.
pub data TypeGives (limits : PlainLimits) (start : Start) {T : Type 0} (built : PlainData → T → Type 0)
    (refused : PlainData → List ℕ → Type 0) (input : Input) (fault : Option PlainFault)
    : Result T Cause → Type 0 where
  no_shape : 4096 < length start.0 → TypeGives limits start built refused input fault (Err no_schema)
  of_shape : {s : PlainShape} {read : Result PlainData Cause} {given : Result T Cause}
      → IsValidSchema start.0 → shape_at start.0 start.1 ≡ Some s
      → InputGives limits start.0 s input fault read → Makes built refused read given
      → TypeGives limits start built refused input fault given

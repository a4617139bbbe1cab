-- What reading a list of events as a value of a type means.
use Rattle.std.specs.Prelude.{◌≡◌, ◌≤◌, ℕ, List, length, Option, Some, None, Result, Ok}
use Rattle.yaml_base.specs.PlainFault.{PlainFault}
use Rattle.yaml_base.specs.declared.error.Cause.{Cause}
use Rattle.yaml_shape.specs.PlainData.{PlainData}
use Rattle.yaml_shape.specs.PlainShape.{PlainShape, shape_at}
use Rattle.yaml_read.specs.Documents.{Input}
use Rattle.yaml_read.specs.TreeReader.{PlainLimits}
use Rattle.yaml_types.specs.Start.{Start}
use Rattle.serde_yaml.specs.Headline.{ReadsAs}
use Rattle.serde_yaml.specs.TypedReads.{Makes}

-- the input reads as v under the shape of a type
pub record TypeReadsAs (limits : PlainLimits) (start : Start) (input : Input) (v : PlainData) : Type 0 where
  pub shape : PlainShape
  pub at : shape_at start.0 start.1 ≡ Some shape
  pub reads : ReadsAs limits start.0 shape input v

-- A value is given only where the parser had no fault and the input reads as data of which the value is built. Where
-- the input reads as v, and the type has a schema, what is given is a value that is built of v, or one of the messages
-- by which the type refuses v.
pub record GivesValue (limits : PlainLimits) (start : Start) {T : Type 0} (built : PlainData → T → Type 0)
    (refused : PlainData → List ℕ → Type 0) (input : Input) (fault : Option PlainFault)
    (given : Result T Cause) : Type 0 where
  pub found : (x : T) → given ≡ Ok x → (fault ≡ None) × (v : PlainData) × TypeReadsAs limits start input v × built v x
  pub only : (v : PlainData) → length start.0 ≤ 4096 → fault ≡ None → TypeReadsAs limits start input v
      → Makes built refused (Ok v) given

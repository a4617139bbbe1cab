-- How data that was written comes back from a parser, and reads back.
use Rattle.std.specs.Prelude.{◌≡◌, ℕ, List, Bool, true, None, Result, Ok, Err, IsTrue}
use Rattle.yaml_base.specs.EmitTree.{EmitNode}
use Rattle.yaml_base.specs.Renders.{Renders}
use Rattle.yaml_base.specs.declared.error.Cause.{Cause}
use Rattle.yaml_base.specs.declared.error.Cause.TheVariants.{Custom}
use Rattle.yaml_shape.specs.PlainData.{PlainData}
use Rattle.yaml_shape.specs.PlainShape.{PlainShape}
use Rattle.yaml_read.specs.Documents.{Input}
use Rattle.yaml_read.specs.MarkedEvents.{events_in}
use Rattle.yaml_read.specs.TreeReader.{PlainLimits}
use Rattle.yaml_write.specs.Written.{written}
use Rattle.serde_yaml.specs.Headline.{ReadsAs}
use Rattle.serde_yaml.specs.TypedWrites.{written_stream}
use Rattle.yaml_round.specs.SameOrder.{same_data}

-- The events come back from a parser of what the data is written as, the only document of a stream: the same structure,
-- tags and texts, in permitted styles, with any marks and sources.
pub record ComesBack (table : List PlainShape) (id : ℕ) (d : PlainData) (input : Input) : Type 0 where
  pub root : EmitNode
  pub is_written : written table id None d ≡ Ok root
  pub rendered : Renders (written_stream root) (events_in input)

-- the input reads as data that is equal, with the pairs of its mappings in the same order
pub record ReadsBack (limits : PlainLimits) (table : List PlainShape) (s : PlainShape) (input : Input)
    (d : PlainData) : Type 0 where
  pub found : PlainData
  pub reads : ReadsAs limits table s input found
  pub same : IsTrue (same_data d found)

-- what came back of a value is equal to it, unless a message refused to write it
pub data IsSameUnless (unwritten : List ℕ → Type 0) : Result Bool Cause → Type 0 where
  is_same : IsSameUnless unwritten (Ok true)
  by_message : (message : List ℕ) → unwritten message → IsSameUnless unwritten (Err (Custom message None))

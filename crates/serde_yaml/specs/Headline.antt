-- What reading a list of events means.
use Rattle.std.specs.Prelude.{◌≡◌, List, [], ◌∷◌, length, Option, Some, None, Result, Ok}
use Rattle.yaml_base.specs.DocTree.{DocNode, nothing, events_of}
use Rattle.yaml_base.specs.PlainFault.{PlainFault}
use Rattle.yaml_base.specs.Stream.{stream_events}
use Rattle.yaml_base.specs.Tree.{Node}
use Rattle.yaml_base.specs.declared.error.Cause.{Cause}
use Rattle.yaml_shape.specs.PlainData.{PlainData}
use Rattle.yaml_shape.specs.PlainShape.{PlainShape}
use Rattle.yaml_read.specs.Documents.{Input}
use Rattle.yaml_read.specs.MarkedEvents.{events_in}
use Rattle.yaml_read.specs.Reads.{Reads}
use Rattle.yaml_read.specs.Resolved.{resolved}
use Rattle.yaml_read.specs.TreeReader.{PlainLimits}

-- The input reads as v under the shape: it is a stream of one document, and v is what its tree means within the limits,
-- each alias standing for the last node so anchored before it. A stream without documents is read as one that stands
-- for nothing.
pub data ReadsAs (limits : PlainLimits) (table : List PlainShape) (s : PlainShape) (input : Input)
    (v : PlainData) : Type 0 where
  one_document : (root : Node) (tree : DocNode) → events_in input ≡ stream_events (root ∷ []) → resolved root
      ≡ Some tree
      → Reads limits table s tree (length (events_of tree)) v → ReadsAs limits table s input v
  no_document : events_in input ≡ stream_events [] → Reads limits table s nothing 1 v → ReadsAs limits table s input v

-- data is given exactly where the parser had no fault and the input reads as that data
pub record GivesMeaning (limits : PlainLimits) (table : List PlainShape) (s : PlainShape) (input : Input)
    (fault : Option PlainFault)
    (given : Result PlainData Cause) : Type 0 where
  pub found : (v : PlainData) → given ≡ Ok v → (fault ≡ None) × ReadsAs limits table s input v
  pub only : (v : PlainData) → fault ≡ None → ReadsAs limits table s input v → given ≡ Ok v

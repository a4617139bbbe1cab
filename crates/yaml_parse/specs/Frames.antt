-- The state of the machine of streams for a phase of the parser, and for what its open collections wait for.
use Rattle.std.specs.Prelude.{Bool, List, [], ◌∷◌, false, map, reverse, true}
use Rattle.yaml_base.specs.Position.{Position}
use Rattle.yaml_base.specs.StreamMachine.{State, before_stream, between_documents, before_root, within, after_stream}
use Rattle.yaml_base.specs.declared.open.Open.{Open}
use Rattle.yaml_base.specs.declared.open.Open.TheVariants.{Sequence, Key, Value}
use Rattle.yaml_parse.specs.declared.frame.Frame.{Frame}
use Rattle.yaml_parse.specs.declared.frame.Frame.TheVariants as frame
use Rattle.yaml_parse.specs.declared.frame.Phase.{Phase}
use Rattle.yaml_parse.specs.declared.frame.Phase.TheVariants as phase

-- what a collection waits for
abbrev pub open_of : Frame → Open
open_of frame.BlockEntry = Sequence
open_of frame.BlockNode = Sequence
open_of frame.IndentlessEntry = Sequence
open_of frame.IndentlessNode = Sequence
open_of frame.FlowNode = Sequence
open_of frame.FlowEntry = Sequence
open_of frame.BlockKey = Key
open_of frame.BlockKeyNode = Key
open_of frame.PairKey = Key
open_of frame.PairEnd = Key
open_of frame.MapKey = Key
open_of frame.MapKeyNode = Key
open_of frame.MapEntry = Key
open_of frame.BlockValue = Value
open_of frame.BlockValueNode = Value
open_of frame.PairValue = Value
open_of frame.PairValueNode = Value
open_of frame.MapValue = Value
open_of frame.MapValueNode = Value
open_of frame.MapNoValue = Value

-- what a collection waits for behind a node
abbrev pub open_after_node : Open → Open
open_after_node Sequence = Sequence
open_after_node Key = Value
open_after_node Value = Key

-- what the open collections wait for, the innermost first
abbrev pub opens : List (Frame × Position) → List Open
opens outer = reverse (map (λ x. open_of x.0) outer)

-- the state for a phase, and for the collections around the innermost, the outermost first
abbrev pub state_of : Phase → List (Frame × Position) → State
state_of phase.Before outer = before_stream
state_of phase.First outer = between_documents
state_of phase.Next outer = between_documents
state_of phase.Directives outer = between_documents
state_of phase.Root outer = before_root
state_of phase.Content outer = before_root
state_of (phase.Within innermost) outer = within (open_of innermost ∷ opens outer)
state_of phase.Ended outer = within []
state_of phase.After outer = after_stream

-- the phase behind the end of the stream
abbrev pub is_done : Phase → Bool
is_done phase.After = true
is_done _ = false

-- whether what a collection waits for may be a sequence's end, or a mapping's
abbrev pub ends_sequence : Open → Bool
ends_sequence Sequence = true
ends_sequence _ = false

abbrev pub ends_mapping : Open → Bool
ends_mapping Key = true
ends_mapping _ = false

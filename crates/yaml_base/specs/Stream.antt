-- Which lists of events are streams.
use Rattle.std.specs.Prelude.{◌≡◌, List, [], ◌∷◌, ◌++◌, Bool, true, false}
use Rattle.yaml_base.specs.PlainEvent.{PlainEvent, stream_start, stream_end, document_start, document_end}
use Rattle.yaml_base.specs.Tree.{Node, node_events}

-- documents of one node each, and the end of the stream
abbrev pub documents_events : List Node → List PlainEvent
documents_events [] = stream_end ∷ []
documents_events (root ∷ roots) = document_start ∷ node_events root (document_end ∷ documents_events roots)

-- the events of a stream of documents with these roots
abbrev pub stream_events : List Node → List PlainEvent
stream_events roots = stream_start ∷ documents_events roots

-- the list is a whole stream
abbrev pub IsStream : List PlainEvent → Type 0
IsStream events = (roots : List Node) × (events ≡ stream_events roots)

-- some whole stream begins so
abbrev pub IsBeginning : List PlainEvent → Type 0
IsBeginning events = (rest : List PlainEvent) × IsStream (events ++ rest)

-- a whole stream where there is no parser's fault, and with one a beginning of a stream that lacks the end
abbrev pub IsWellFormed : Bool → List PlainEvent → Type 0
IsWellFormed false events = IsStream events
IsWellFormed true events = IsBeginning events × (IsStream events → ⊥)

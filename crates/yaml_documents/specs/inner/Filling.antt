-- The events of a batch of documents: those that were given, and those that a loader took.
use Rattle.std.specs.Prelude.{◌≡◌, ◌≢◌, ◌∷◌, ◌++◌, Bool, List, None, Option, Some, [], false, if◌then◌else◌}
use Rattle.std.specs.Prelude.{map, not, true, ◌&&◌, ℕ}
use Rattle.yaml_base.specs.MarkedEvents.{events_in, plain_events, plain_marked}
use Rattle.yaml_base.specs.PlainDocument.{PlainDocument}
use Rattle.yaml_base.specs.PlainEvent.{document_end, stream_start}
use Rattle.yaml_base.specs.PlainFault.{PlainFault}
use Rattle.yaml_base.specs.Position.{Position}
use Rattle.yaml_base.specs.StreamMachine.{before_stream, between_documents, run}
use Rattle.yaml_base.specs.declared.event.Event.{Event}
use Rattle.yaml_documents.specs.declared.filling.Filled.{Filled}
use Rattle.yaml_documents.specs.declared.filling.Filled.TheVariants.{Full, Last}
use Rattle.yaml_documents.specs.inner.Pending.{ComeNext}
use Rattle.yaml_read.specs.Documents.{Input, after_starts, document_from, documents_of, is_ended, is_open_after}

-- the documents that begin in events; a last one without end is cut off by the fault
abbrev pub begun_in : Option PlainFault → Input → List PlainDocument
begun_in fault input = map (document_from fault) (after_starts false input)

-- no event was given, or those up to the end of a document, whose mark it is
abbrev pub IsBetween : Option Position → List (Event × Position) → Type 0
IsBetween None given = given ≡ []
IsBetween (Some mark) given =
    (run (Some before_stream) (plain_events given) ≡ Some between_documents)
    × (begun_in None (plain_marked given) ≢ [])

-- what a loader takes in front of the events of a batch: behind a document, the start of a stream
abbrev pub front : Option Position → Input
front None = []
front (Some mark) = (stream_start, mark) ∷ []

-- the events that were given and those that were taken lead to one state
abbrev pub Agree : List (Event × Position) → Input → Type 0
Agree given taken = run (Some before_stream) (events_in taken) ≡ run (Some before_stream) (plain_events given)

-- no document ends in the events, or one does with their last, which has this mark
abbrev pub EndsAt : Option Position → Input → Type 0
EndsAt None more = is_ended more ≡ false
EndsAt (Some mark) more = (inner : Input) × (is_ended inner ≡ false) × (more ≡ inner ++ (document_end, mark) ∷ [])

-- the same events were given and taken, up to the end of a document or of all
pub record ReadsOn (given : List (Event × Position)) (taken : Input) (given_now : List (Event × Position))
    (taken_now : Input) (end : Option Position) : Type 0 where
  pub more : Input
  pub given_more : plain_marked given_now ≡ plain_marked given ++ more
  pub taken_more : taken_now ≡ taken ++ more
  pub agree : Agree given_now taken_now
  pub ends : EndsAt end more

-- the same events were given and taken, of whole documents, each of which is with those before it the first of the text
pub record ReadsWhole (text : List ℕ) (given : List (Event × Position)) (taken : Input)
    (given_now : List (Event × Position)) (taken_now : Input) : Type 0 where
  pub more : Input
  pub given_more : plain_marked given_now ≡ plain_marked given ++ more
  pub taken_more : taken_now ≡ taken ++ more
  pub agree : Agree given_now taken_now
  pub closed : is_open_after false more ≡ false
  pub next : ComeNext text false (begun_in None (plain_marked given)) (begun_in None more)

-- at least one document was read, and nothing behind the last
pub record IsFull (text : List ℕ) (given : List (Event × Position)) (taken : Input)
    (given_now : List (Event × Position)) (taken_now : Input) : Type 0 where
  pub reads : ReadsWhole text given taken given_now taken_now
  pub between : run (Some before_stream) (plain_events given_now) ≡ Some between_documents
  pub some : begun_in None reads.more ≢ []

-- some documents were read or no event
abbrev pub AreSome : Bool → Input → Type 0
AreSome true more = begun_in None more ≢ []
AreSome false more = more ≡ []

-- whole documents were read, and behind them events up to the last, among which none ends
pub record IsLast (text : List ℕ) (given : List (Event × Position)) (taken : Input)
    (given_now : List (Event × Position)) (taken_now : Input) (some : Bool) : Type 0 where
  pub given_whole : List (Event × Position)
  pub taken_whole : Input
  pub reads : ReadsWhole text given taken given_whole taken_whole
  pub are_some : AreSome some reads.more
  pub on : ReadsOn given_whole taken_whole given_now taken_now None

-- what was read of the events, by how far they go
abbrev pub IsFilled : List ℕ → List (Event × Position) → Input → List (Event × Position) → Input → Filled → Type 0
IsFilled text given taken given_now taken_now (Full mark) = IsFull text given taken given_now taken_now
IsFilled text given taken given_now taken_now (Last some) = IsLast text given taken given_now taken_now some

-- they go up to the end of the text
abbrev pub is_last : Filled → Bool
is_last (Full mark) = false
is_last (Last some) = true

-- the stream came to its end behind documents that were loaded before, with none of the batch between
abbrev pub is_at_end : Option PlainFault → Bool → Bool → Bool
is_at_end (Some fault) before some = false
is_at_end None before some = before && not some

-- the documents of the events up to the end of the text
abbrev pub left_documents : Input → Option PlainFault → Bool → Bool → List PlainDocument
left_documents taken fault before some = if is_at_end fault before some then [] else documents_of taken fault

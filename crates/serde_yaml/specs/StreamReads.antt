-- What a stream gives, read under a shape within limits.
use Rattle.std.specs.Prelude.{◌≡◌, List, [], ◌∷◌, Option, is_some, Bool, true, false, Result, Ok, Err, ℕ}
use Rattle.yaml_base.specs.PlainDocument.{PlainDocument}
use Rattle.yaml_base.specs.PlainFault.{PlainFault}
use Rattle.yaml_base.specs.Stream.{IsWellFormed}
use Rattle.yaml_base.specs.declared.error.Cause.{Cause}
use Rattle.yaml_base.specs.declared.error.Cause.TheVariants.{MoreThanOneDocument, NotAStream}
use Rattle.yaml_shape.specs.PlainData.{PlainData}
use Rattle.yaml_shape.specs.PlainShape.{PlainShape}
use Rattle.yaml_read.specs.Documents.{Input, documents_of}
use Rattle.yaml_read.specs.MarkedEvents.{events_in}
use Rattle.yaml_read.specs.Reads.{DocumentGives}
use Rattle.yaml_read.specs.TreeReader.{PlainLimits}
use Rattle.yaml_read.specs.WrongPlace.{IsWrongAt}
use Rattle.serde_yaml.specs.PlainStream.{PlainStream}

-- the stream was not iterated, its first document is this one, and others follow
pub record BeginsWithDocument (stream : PlainStream) (document : PlainDocument)
    (others : List PlainDocument) : Type 0 where
  pub fresh : stream.iterated ≡ false
  pub documents : stream.documents ≡ document ∷ others

-- other documents follow
abbrev pub some_follow : List PlainDocument → Bool
some_follow [] = false
some_follow (document ∷ others) = true

-- the stream was not iterated, its first document is this one, and the flag says whether others follow
abbrev pub IsFirst : PlainStream → PlainDocument → Bool → Type 0
IsFirst stream document more = (others : List PlainDocument) × BeginsWithDocument stream document others
    × (more ≡ some_follow others)

-- what a first document gives, by whether others follow: then its data is refused, and its fault stays
abbrev pub unless_more : Bool → Result PlainData Cause → Result PlainData Cause
unless_more true (Ok v) = Err MoreThanOneDocument
unless_more more given = given

-- What a stream gives, read under a shape of the table within limits: what its first document gives, unless others
-- follow; and once it was iterated, nothing.
pub record StreamGives (limits : PlainLimits) (table : List PlainShape) (s : PlainShape) (stream : PlainStream)
    (given : Result PlainData Cause) : Type 0 where
  pub first : (document : PlainDocument) (others : List PlainDocument) → BeginsWithDocument stream document others
      → (found : Result PlainData Cause) × DocumentGives limits table s document found
      × (given ≡ unless_more (some_follow others) found)
  pub iterated : stream.iterated ≡ true → given ≡ Err MoreThanOneDocument

-- a stream from which nothing is read for this reason, whatever is asked of it
abbrev pub RefusesAll : PlainStream → Cause → Type 0
RefusesAll stream cause = (limits : PlainLimits) (table : List PlainShape) (s : PlainShape)
    → StreamGives limits table s stream (Err cause)

-- the stream of an input, before it is iterated
abbrev pub stream_of : Input → Option PlainFault → PlainStream
stream_of input fault = record { documents = documents_of input fault; is_document = false; iterated = false }

-- the stream is that of an input, which is a stream of events, or with the parser's fault a beginning of one
pub record IsOfInput (stream : PlainStream) : Type 0 where
  pub input : Input
  pub fault : Option PlainFault
  pub well_formed : IsWellFormed (is_some fault) (events_in input)
  pub same : stream ≡ stream_of input fault

-- What an input gives: a list of events that is no stream, or with the parser's fault no beginning of one, is refused
-- with the least place that is wrong; of a stream, what the stream gives.
pub data InputGives (limits : PlainLimits) (table : List PlainShape) (s : PlainShape) (input : Input)
    (fault : Option PlainFault)
    : Result PlainData Cause → Type 0 where
  no_stream : (place : ℕ) → IsWrongAt (is_some fault) (events_in input) place
      → InputGives limits table s input fault (Err (NotAStream place))
  a_stream : {given : Result PlainData Cause} → IsWellFormed (is_some fault) (events_in input)
      → StreamGives limits table s (stream_of input fault) given → InputGives limits table s input fault given

-- What is answered of the events that a parser makes of a text is answered of the text.
use Rattle.std.proofs.Common.{◌≡◌, List, Option, Result, Ok, Err, ℕ, subst, is_some}
use Rattle.yaml_base.specs.Answer.{Answers}
use Rattle.yaml_base.specs.MarkedEvents.{events_in, plain_marked}
use Rattle.yaml_base.specs.PlainFault.{PlainFault}
use Rattle.yaml_base.specs.Stream.{IsWellFormed}
use Rattle.yaml_base.specs.declared.error.Cause.{Cause}
use Rattle.yaml_read.specs.Documents.{Input}
use Rattle.serde_yaml.specs.PlainStream.{PlainStream}
use Rattle.serde_yaml.specs.StreamReads.{IsOfInput, stream_of}
use Rattle.serde_yaml.specs.TextReads.{IsParsed}
use Rattle.serde_yaml.proofs.TypedLaws.{same_events}

-- the events that a text was parsed to are a stream, with their marks beside them too
pub is_stream : {text : List ℕ} {P : Input → Option PlainFault → Type 0} (p : IsParsed text P)
    → IsWellFormed (is_some p.fault) (events_in (plain_marked p.events))
is_stream p = subst (IsWellFormed (is_some p.fault)) (same_events p.events) p.parsed.taken

-- so the stream of a text is that of an input
pub of_input : {text : List ℕ} {stream : PlainStream} → IsParsed text (λ events fault. stream ≡ stream_of events fault)
    → IsOfInput stream
of_input p = record {
  input = plain_marked p.events;
  fault = p.fault;
  well_formed = is_stream p;
  same = p.holds;
}

-- what holds of the events that a text was parsed to holds of the text
pub parsed_as : {text : List ℕ} {P : Input → Option PlainFault → Type 0} (Q : Input → Option PlainFault → Type 0)
    (p : IsParsed text P) → Q (plain_marked p.events) p.fault → IsParsed text Q
parsed_as Q p holds = record { events = p.events; fault = p.fault; parsed = p.parsed; holds = holds }

-- what is answered of the events is answered of the text
pub answered : {X Y : Type 0} (view : X → Y) (result : Result X Cause)
    (allowed : Input → Option PlainFault → Result Y Cause → Type 0) {text : List ℕ}
    {P : Input → Option PlainFault → Type 0} (p : IsParsed text P)
    → Answers view result (allowed (plain_marked p.events) p.fault)
    → Answers view result (λ given. IsParsed text (λ es f. allowed es f given))
answered view (Ok x) allowed p holds = parsed_as (λ es f. allowed es f (Ok (view x))) p holds
answered view (Err cause) allowed p holds = λ m. parsed_as (λ es f. allowed es f (Err cause)) p (holds m)

-- two answers are one
pub both : {X Y : Type 0} (view : X → Y) (result : Result X Cause) (A B : Result Y Cause → Type 0)
    → Answers view result A → Answers view result B → Answers view result (λ given. A given × B given)
both view (Ok x) A B a b = (a, b)
both view (Err cause) A B a b = λ m. (a m, b m)

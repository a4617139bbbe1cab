-- The events of a text are never refused as no stream, and what is told of them is what the text was parsed to.
use Rattle.std.proofs.Common.{
  ◌≡◌,
  ◌∙◌,
  ◌∷◌,
  ◌++◌,
  [],
  Bool,
  IsSomeAnd,
  List,
  None,
  Option,
  ap,
  false,
  is_some,
  refl,
  subst,
}
use Rattle.std.proofs.Common.{Err, Ok, Result, sym}
use Rattle.std.proofs.Common.{true, ℕ}
use Rattle.std.proofs.lemmas.List.{map-append}
use Rattle.std.specs.Prelude.{IfOk}
use Rattle.yaml_base.specs.MarkedEvents.{events_in, plain_events, plain_marked}
use Rattle.yaml_base.specs.PlainEvent.{event_of}
use Rattle.yaml_base.specs.PlainFault.{PlainFault}
use Rattle.yaml_base.specs.Position.{Position}
use Rattle.yaml_base.specs.Stream.{IsBeginning, IsWellFormed}
use Rattle.yaml_base.specs.declared.event.Event.{Event}
use Rattle.yaml_load.specs.Documents.{Input}
use Rattle.yaml_load.specs.WrongPlace.{IsWrongNext}
use Rattle.yaml_parse.specs.Faults.{IsNotReaders}
use Rattle.yaml_parse.specs.Marks.{MarksAscend}
use Rattle.yaml_parse.specs.Places.{AreInPlace}
use Rattle.yaml_parse.specs.PlainText.{SaySources}
use Rattle.yaml_parse.specs.Shown.{AreShown}
use Rattle.yaml_scan.specs.AllowedText.{IsAllowed, IsOfReader}
use Rattle.yaml_checked.specs.OfText.{MayBeLeft}
use Rattle.yaml_documents.specs.TextDocuments.{IsParsed, IsRead}
use Rattle.yaml_documents.specs.TextEvents.{AreParsed, AreRead, AreTheirs}

-- what is not false is true
pub not_false : (b : Bool) → (b ≡ false → ⊥) → b ≡ true
not_false true never = refl
not_false false never = absurd (never refl)

-- the plain events, with their marks beside them or not
pub same_events : (events : List (Event × Position)) → plain_events events ≡ events_in (plain_marked events)
same_events [] = refl
same_events (e ∷ events) = ap (λ es. event_of e.0 ∷ es) (same_events events)

-- an event with which events are a beginning of a stream is not wrong behind them
pub never_wrong : (taken : Input) (given now : List (Event × Position)) (x : Event × Position)
    → taken ≡ plain_marked given → now ≡ given ++ x ∷ [] → IsBeginning (plain_events now)
    → IsWrongNext (events_in taken) (event_of x.0) → ⊥
never_wrong taken given now x is more begins wrong =
    let same : plain_events now ≡ events_in taken ++ event_of x.0 ∷ [] =
    ap plain_events more ∙ map-append (λ (e : Event × Position). event_of e.0) given (x ∷ [])
    ∙ ap (λ es. es ++ event_of x.0 ∷ []) (same_events given ∙ ap events_in (sym is)) in
    wrong.1 (subst IsBeginning same begins)

-- events and a fault of which a parser and its ending tell this are those that it made of the text
pub read_of : {told text : List ℕ} {events : List (Event × Position)} {fault : Option PlainFault} → told ≡ text
    → IsWellFormed (is_some fault) (plain_events events) → AreShown told events → SaySources events
    → MarksAscend told events → AreInPlace told events → (IsAllowed told → IsNotReaders fault)
    → ((IsAllowed told → ⊥) → events ≡ [])
    → ((IsAllowed told → ⊥) → IsSomeAnd fault (λ f. IsOfReader told f.kind f.offset)) → AreRead text events fault
read_of {told} {text} {events} {fault} same taken sources plain marks places allowed none refused =
    let read : AreRead told events fault = record {
      taken = taken;
      sources = sources;
      plain = plain;
      marks = marks;
      places = places;
      allowed = allowed;
      refused = λ against. (none against, refused against);
    } in
    subst (λ (t : List ℕ). AreRead t events fault) same read

-- events that are a whole stream of a text that is allowed are those that were made of it, with no fault
pub read_whole : {told text : List ℕ} {events : List (Event × Position)} → told ≡ text → IsAllowed text
    → IsWellFormed false (plain_events events) → AreShown told events → SaySources events → MarksAscend told events
    → AreInPlace told events → AreRead text events None
read_whole {told} {text} {events} same is_allowed taken sources plain marks places =
    let held : IsAllowed told = subst IsAllowed (sym same) is_allowed in
    read_of same taken sources plain marks places (λ _. tt) (λ against. absurd (against held))
    (λ against. absurd (against held))

-- Events and a fault that were made of the text, and are those of the documents that stand in it, are what it was
-- parsed to.
pub parsed_so : {text : List ℕ} {events : List (Event × Position)} {fault : Option PlainFault}
    → AreRead text events fault → AreTheirs text events fault → AreParsed text events fault
parsed_so {text} {events} {fault} read theirs = record {
  taken = read.taken;
  sources = read.sources;
  plain = read.plain;
  marks = read.marks;
  places = read.places;
  allowed = read.allowed;
  refused = read.refused;
  stands = theirs;
}

-- where the direct parser may leave the text, no events are those of documents that stand in it
pub theirs_where_left : (text : List ℕ) (events : List (Event × Position)) (fault : Option PlainFault)
    → MayBeLeft text → AreTheirs text events fault
theirs_where_left text events fault left ds stand short = absurd (left short ds stand)

-- whatever fault comes with them
pub theirs_with_any : {E : Type 0} (text : List ℕ) (events : List (Event × Position))
    (found : Result (Option PlainFault) E) → MayBeLeft text → IfOk found (AreTheirs text events)
theirs_with_any text events (Ok fault) left = theirs_where_left text events fault left
theirs_with_any text events (Err cause) left = tt

-- what holds of what was made of a text holds of what it was parsed to, if those are the events of its documents
pub parsed_as_read : (text : List ℕ) (P : Input → Option PlainFault → Type 0) → MayBeLeft text → IsRead text P
    → IsParsed text P
parsed_as_read text P left r = record {
  events = r.events;
  fault = r.fault;
  parsed = parsed_so r.read (theirs_where_left text r.events r.fault left);
  holds = r.holds;
}

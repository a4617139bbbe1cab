-- Documents as ranges of one list of events, beside which stand the numbers of the events.
use Rattle.std.specs.Prelude.{ℕ, ◌≡◌, ◌≤◌, List, map, length, slice_range, All, Box, Option}
use Rattle.std.specs.Option.{option_map}
use Rattle.std.specs.declared.alloc.Global.{Global}
use Rattle.yaml_base.specs.DocEventView.{doc_event_of, marked_events_of}
use Rattle.yaml_base.specs.PlainDocEvent.{PlainDocEvent}
use Rattle.yaml_base.specs.PlainDocument.{PlainDocument}
use Rattle.yaml_base.specs.Position.{Position}
use Rattle.yaml_base.specs.declared.doc_event.DocEvent.{DocEvent}
use Rattle.yaml_base.specs.declared.error.Cause.{Cause}
use Rattle.yaml_base.specs.declared.error.Error.{Error}
use Rattle.yaml_load.specs.Ends.{ends_of}
use Rattle.yaml_load.specs.declared.loader.draft.Cut.{Cut}

-- the plain events, without their marks
abbrev pub plain_doc_events : List (DocEvent × Position) → List PlainDocEvent
plain_doc_events events = map (λ e. doc_event_of e.0) events

-- the range lies within the events and their numbers, and the numbers there are those of the events there
abbrev pub HasEnds : List (DocEvent × Position) → List ℕ → ℕ → ℕ → Type 0
HasEnds events ends from to =
    (from ≤ to) × (to ≤ length events) × (to ≤ length ends)
    × (slice_range ends from to ≡ ends_of (plain_doc_events (slice_range events from to)))

-- each range lies so
abbrev pub AreCuts : List (DocEvent × Position) → List ℕ → List Cut → Type 0
AreCuts events ends cuts = All (λ (c : Cut). HasEnds events ends c.from c.to) cuts

-- what a document's fault says, where it has one
abbrev pub ending_in : Option (Box Error Global) → Option Cause
ending_in error = option_map (λ b. b.value) error

-- the document whose events are in a range, with the fault that cut it off, if one did
abbrev pub document_of_range : List (DocEvent × Position) → ℕ → ℕ → Option (Box Error Global) → PlainDocument
document_of_range events from to error =
    record { events = marked_events_of (slice_range events from to); ending = ending_in error }

-- the document of a cut
abbrev pub document_in : List (DocEvent × Position) → Cut → PlainDocument
document_in events cut = document_of_range events cut.from cut.to cut.error

-- the documents of ranges
abbrev pub documents_in : List (DocEvent × Position) → List Cut → List PlainDocument
documents_in events cuts = map (document_in events) cuts

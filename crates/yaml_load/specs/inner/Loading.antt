-- What the events read so far, and those left, make of a draft.
use Rattle.std.specs.Prelude.{◌≡◌, ◌≤◌, ◌<◌, ◌+◌, ℕ, List, [], ◌∷◌, ◌++◌, map, length, All, Bool, true, false, IfSome}
use Rattle.std.specs.Prelude.{Option}
use Rattle.yaml_base.specs.Position.{Position}
use Rattle.yaml_base.specs.PlainEvent.{PlainEvent, stream_start, stream_end, document_start, document_end}
use Rattle.yaml_base.specs.PlainFault.{PlainFault}
use Rattle.yaml_load.specs.Documents.{Input, after_starts, document_from, is_open_after}
use Rattle.yaml_load.specs.Gathering.{AreCuts, documents_in}
use Rattle.yaml_base.specs.PlainDocument.{PlainDocument}
use Rattle.yaml_base.specs.StreamMachine.{State, before_root, within}
use Rattle.yaml_load.specs.StreamPhases.{Moves}
use Rattle.yaml_base.specs.declared.open.Open.{Open}
use Rattle.yaml_load.specs.declared.check.Phase.{Phase}
use Rattle.yaml_base.specs.declared.doc_event.DocEvent.{DocEvent}
use Rattle.yaml_load.specs.declared.loader.draft.Draft.{Draft}
use Rattle.yaml_load.specs.inner.Drafts.{IsDraft, IsDraftBetween}

-- whether a document is open in front of an event that may stand there, and behind it
abbrev pub open_before : PlainEvent → Bool
open_before stream_start = false
open_before stream_end = false
open_before document_start = false
open_before _ = true

abbrev pub open_behind : PlainEvent → Bool
open_behind stream_start = false
open_behind stream_end = false
open_behind document_end = false
open_behind _ = true

-- the draft's places lie within its events
pub record IsReady (d : Draft) : Type 0 where
  pub from : d.from ≤ length d.events.items
  pub numbers : length d.ends.numbers ≡ length d.events.items
  pub within : All (λ x. d.from + x.1 < length d.events.items) d.anchors.aliases.items

-- a document is open
abbrev pub is_inside : State → Bool
is_inside before_root = true
is_inside (within opened) = true
is_inside _ = false

-- the documents that are to come make the documents of all events complete
abbrev pub AreAll : Option PlainFault → Input → List PlainDocument → Bool → Input → Type 0
AreAll fault all documents opened left =
    (documents ++ map (document_from fault) (after_starts opened left)
    ≡ map (document_from fault) (after_starts false all))
    × (is_open_after opened left ≡ is_open_after false all)

-- the draft holds the documents that have ended
pub record IsClosedDraft (fault : Option PlainFault) (all left : Input) (d : Draft) : Type 0 where
  pub documents : List PlainDocument
  pub between : IsDraftBetween documents d
  pub complete : AreAll fault all documents false left

-- the draft holds the documents that have ended, and what was seen of the open one
pub record IsOpenDraft (fault : Option PlainFault) (all left : Input) (d : Draft) : Type 0 where
  pub events : List (DocEvent × Position)
  pub numbers : List ℕ
  pub seen : Input
  pub draft : IsDraft events numbers seen d
  pub cuts : AreCuts events numbers d.cuts.items
  pub complete : AreAll fault all (documents_in events d.cuts.items ++ document_from fault (seen ++ left) ∷ []) true
      left

-- the draft where a document is open, and where none is
abbrev pub IsOnWay : Bool → Option PlainFault → Input → Input → Draft → Type 0
IsOnWay true fault all left d = IsOpenDraft fault all left d
IsOnWay false fault all left d = IsClosedDraft fault all left d

-- a draft goes over an event
abbrev pub TakesEvent : PlainEvent → Position → Draft → Draft → Type 0
TakesEvent e mark old new = (fault : Option PlainFault) (all rest : Input)
    → IsOnWay (open_before e) fault all ((e, mark) ∷ rest) old → IsOnWay (open_behind e) fault all rest new

-- An event leads from a phase to another, and the draft goes over it; or it may not stand there. What the collections
-- around the innermost wait for stands beside each phase.
abbrev pub StepsOver : Phase → List Open → PlainEvent → Position → Draft → List Open → Draft → Option Phase → Type 0
StepsOver phase outer e mark old behind new found =
    Moves phase outer e behind found × IfSome found (λ _. TakesEvent e mark old new)

-- The events of a document before its end is reached: aliases have their targets, or wait for them.
use Rattle.std.specs.Prelude.{ℕ, ◌≡◌, ◌⊎◌, ◌+◌, List, [], ◌∷◌, ◌++◌, map, length, Bool, true, false, IsTrue, All}
use Rattle.std.specs.Prelude.{Option}
use Rattle.std.specs.Prelude.{Some, None}
use Rattle.std.specs.Prelude.{suc, zero}
use Rattle.yaml_base.specs.Position.{Position}
use Rattle.yaml_base.specs.PlainEvent.{PlainEvent, alias, scalar, sequence_start, sequence_end, mapping_start}
use Rattle.yaml_base.specs.PlainEvent.{mapping_end}
use Rattle.yaml_base.specs.DocEventView.{marked_events_of}
use Rattle.yaml_base.specs.PlainDocEvent.{PlainDocEvent, alias_to, a_scalar, sequence_begins, sequence_ends}
use Rattle.yaml_base.specs.PlainDocEvent.{mapping_begins, mapping_ends, a_void}
use Rattle.yaml_base.specs.PlainDocument.{PlainDocument}
use Rattle.yaml_base.specs.declared.doc_event.DocEvent.{DocEvent}
use Rattle.yaml_load.specs.Documents.{Find, Input, anchors_in, becomes, find_in}
use Rattle.yaml_load.specs.Gathering.{AreCuts, documents_in}
use Rattle.yaml_load.specs.Resolved.{without_anchor}
use Rattle.yaml_load.specs.declared.loader.draft.Draft.{Draft}
use Rattle.yaml_load.specs.inner.OpenEnds.{HasNumbers}

-- the event is part of a node
abbrev pub is_of_node : PlainEvent → Bool
is_of_node (alias anchor) = true
is_of_node (scalar s) = true
is_of_node (sequence_start anchor tag) = true
is_of_node sequence_end = true
is_of_node (mapping_start anchor tag) = true
is_of_node mapping_end = true
is_of_node _ = false

-- what stands for an event until its document ends
abbrev pub drafted : PlainEvent → PlainDocEvent
drafted (alias anchor) = alias_to 0
drafted (scalar s) = a_scalar (without_anchor s)
drafted (sequence_start anchor tag) = sequence_begins tag
drafted sequence_end = sequence_ends
drafted (mapping_start anchor tag) = mapping_begins tag
drafted mapping_end = mapping_ends
drafted _ = a_void

-- what stands for events, without marks
abbrev pub drafts_of : Input → List PlainDocEvent
drafts_of input = map (λ e. drafted e.0) input

-- the anchors of the aliases that wait for their targets, each beside the place of its alias
abbrev pub Waiting : Type 0
Waiting = List (List ℕ × ℕ)

-- what stands for an event at a place: for an alias what it becomes, or nothing yet, and then it waits
abbrev pub IsTaken : Find → ℕ → PlainEvent → PlainDocEvent → Waiting → Type 0
IsTaken find place (alias anchor) d waiting =
    ((d ≡ alias_to 0) × (waiting ≡ (anchor, place) ∷ []))
    ⊎ ((becomes find place (alias anchor) ≡ Some d) × (waiting ≡ []))
IsTaken find place e d waiting = (d ≡ drafted e) × (waiting ≡ [])

-- the same for events one after another, the first of them at a place
abbrev pub AreTaken : Find → ℕ → Input → List (PlainDocEvent × Position) → Waiting → Type 0
AreTaken find place [] events waiting = (events ≡ []) × (waiting ≡ [])
AreTaken find place (e ∷ seen) events waiting =
    (d : PlainDocEvent) × (here : Waiting) × (later : List (PlainDocEvent × Position)) × (left : Waiting)
    × IsTaken find place e.0 d here × AreTaken find (place + 1) seen later left
    × (events ≡ (d, e.1) ∷ later) × (waiting ≡ here ++ left)

-- an alias at a place gets its target
abbrev pub aimed : ℕ → ℕ → List (PlainDocEvent × Position) → List (PlainDocEvent × Position)
aimed place target [] = []
aimed zero target (e ∷ events) = (alias_to target, e.1) ∷ events
aimed (suc place) target (e ∷ events) = e ∷ aimed place target events

-- events, and the place of the first unknown alias among them
abbrev pub Settled : Type 0
Settled = List (PlainDocEvent × Position) × Option ℕ

-- one alias gets its target, and then the later ones; nothing is done where it is unknown
abbrev pub settle : Option ℕ → ℕ → List (PlainDocEvent × Position) → (List (PlainDocEvent × Position) → Settled)
    → Settled
settle None place events later = (events, Some place)
settle (Some target) place events later = later (aimed place target events)

-- the aliases up to the first unknown one get their targets
abbrev pub settled : Find → List (List ℕ × ℕ) → List (PlainDocEvent × Position) → Settled
settled find [] events = (events, None)
settled find (x ∷ aliases) events = settle (find x.0 x.1) x.1 events (settled find aliases)

-- a document is open behind these events and numbers, and these events of it were seen
pub record IsDraft (events : List (DocEvent × Position)) (numbers : List ℕ) (seen : Input) (d : Draft) : Type 0 where
  pub nodes : All (λ e. IsTrue (is_of_node e.0)) seen
  pub long : length numbers ≡ length events
  pub from : d.from ≡ length events
  pub now : List (DocEvent × Position)
  pub whole : d.events.items ≡ events ++ now
  pub taken : AreTaken (find_in (anchors_in 0 seen)) 0 seen (marked_events_of now) d.anchors.aliases.items
  pub ends : HasNumbers numbers (drafts_of seen) d.ends
  pub named : d.anchors.named.items ≡ anchors_in 0 seen

-- no document is open, and those that were have their ranges
pub record IsDraftBetween (documents : List PlainDocument) (d : Draft) : Type 0 where
  pub long : length d.ends.numbers ≡ length d.events.items
  pub unended : d.ends.unended ≡ []
  pub named : d.anchors.named.items ≡ []
  pub aliases : d.anchors.aliases.items ≡ []
  pub cuts : AreCuts d.events.items d.ends.numbers d.cuts.items
  pub shown : documents_in d.events.items d.cuts.items ≡ documents

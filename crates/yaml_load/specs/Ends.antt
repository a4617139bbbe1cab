-- Where the collections of a document end.
use Rattle.std.specs.Prelude.{ℕ, ◌+◌, ◌-◌, List, [], ◌∷◌, Bool, true, false, ◌&&◌, ◌==◌, if◌then◌else◌, ◌≡◌, ◌≤◌, Some}
use Rattle.std.specs.Prelude.{slice_get}
use Rattle.yaml_base.specs.PlainDocEvent.{PlainDocEvent, sequence_begins, sequence_ends, mapping_begins, mapping_ends}

-- a collection begins
abbrev pub is_opening : PlainDocEvent → Bool
is_opening (sequence_begins tag) = true
is_opening (mapping_begins tag) = true
is_opening _ = false

-- a collection ends
abbrev pub is_closing : PlainDocEvent → Bool
is_closing sequence_ends = true
is_closing mapping_ends = true
is_closing _ = false

-- how many inner collections are open behind an event, by how many were before it
abbrev pub inner_after : PlainDocEvent → ℕ → ℕ
inner_after e inner = if is_opening e then inner + 1 else (if is_closing e then inner - 1 else inner)

-- The place at which a collection ends, or the length where it is cut off: the events from a place on are within it,
-- and a number of collections within it are open there.
abbrev pub end_place : ℕ → ℕ → List PlainDocEvent → ℕ
end_place inner place [] = place
end_place inner place (e ∷ events) =
    if is_closing e && (inner == 0) then place else end_place (inner_after e inner) (place + 1) events

-- one number for each event from a place on: where the collection that begins there ends, for any other event its place
abbrev pub ends_from : ℕ → List PlainDocEvent → List ℕ
ends_from place [] = []
ends_from place (e ∷ events) =
    (if is_opening e then end_place 0 (place + 1) events else place) ∷ ends_from (place + 1) events

-- the numbers of a document's events
abbrev pub ends_of : List PlainDocEvent → List ℕ
ends_of events = ends_from 0 events

-- no number is below its place
abbrev pub GoForward : List ℕ → Type 0
GoForward ends = (place end : ℕ) → slice_get ends place ≡ Some end → place ≤ end

-- Where the marks of events stand in a text: in the line and at the column of their index.
use Rattle.std.specs.Prelude.{ℕ, ◌≡◌, ◌+◌, List, not, ◌&&◌, ◌==◌, if◌then◌else◌, All, length}
use Rattle.yaml_base.specs.Places.{place_of}
use Rattle.yaml_base.specs.Position.{Position}
use Rattle.yaml_base.specs.declared.event.Event.{Event}

-- The line and the column of a mark: those of its index. Where the text ends in a line without a line break, a mark in
-- column 0 stands on the line behind it.
abbrev pub place_of_mark : List ℕ → Position → ℕ × ℕ
place_of_mark text mark =
    let place = place_of text mark.index in
    if mark.index == length text && (mark.column == 0 && not (place.1 == 0)) then (place.0 + 1, 0) else place

-- the mark has the line and the column that the text has there
abbrev pub IsInPlace : List ℕ → Position → Type 0
IsInPlace text mark = (mark.line, mark.column) ≡ place_of_mark text mark

-- so does that of each event
abbrev pub AreInPlace : List ℕ → List (Event × Position) → Type 0
AreInPlace text events = All (λ e. IsInPlace text e.1) events

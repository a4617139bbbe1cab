-- Where the marks of events lie.
use Rattle.std.specs.Prelude.{ℕ, ◌≤◌, All, List, length}
use Rattle.std.specs.List.Sorted.{IsNonDecreasingBy}
use Rattle.yaml_base.specs.Position.{Position}
use Rattle.yaml_base.specs.declared.event.Event.{Event}

-- each event begins within the text, and none before the one before it
abbrev pub MarksAscend : List ℕ → List (Event × Position) → Type 0
MarksAscend text events = All (λ e. e.1.index ≤ length text) events × IsNonDecreasingBy (λ e. e.1.index) events

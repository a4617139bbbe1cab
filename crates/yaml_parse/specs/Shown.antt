-- Where the sources of scalars lie in a text.
use Rattle.std.specs.Prelude.{◌≡◌, ◌+◌, ◌≤◌, ℕ, All, IfSome, IsSomeAnd, List, length, slice_range}
use Rattle.yaml_base.specs.Position.{Position}
use Rattle.yaml_base.specs.PlainEvent.{PlainEvent, event_of}
use Rattle.yaml_base.specs.declared.event.Event.{Event}
use Rattle.yaml_parse.specs.PlainText.{scalar_in}

-- the bytes stand in the text from this index on
abbrev pub StandsAt : List ℕ → ℕ → List ℕ → Type 0
StandsAt text index bytes =
    (index + length bytes ≤ length text) × (bytes ≡ slice_range text index (index + length bytes))

-- the source of a scalar is known, and stands in the text where the event begins
abbrev pub IsShown : List ℕ → PlainEvent → Position → Type 0
IsShown text event mark = IfSome (scalar_in event) (λ s. IsSomeAnd s.source (StandsAt text mark.index))

-- so does that of each of the events
abbrev pub AreShown : List ℕ → List (Event × Position) → Type 0
AreShown text events = All (λ e. IsShown text (event_of e.0) e.1) events

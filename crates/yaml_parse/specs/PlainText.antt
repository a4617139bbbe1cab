-- What plain scalars say.
use Rattle.std.specs.Prelude.{◌≡◌, ◌-◌, ℕ, All, IfSome, List, None, Option, Some, drop, length}
use Rattle.yaml_base.specs.LineBreaks.{IsOneLine}
use Rattle.yaml_base.specs.PlainEvent.{PlainEvent, PlainScalar, event_of, scalar}
use Rattle.yaml_base.specs.Position.{Position}
use Rattle.yaml_base.specs.declared.event.Event.{Event}
use Rattle.yaml_base.specs.declared.event.ScalarStyle.TheVariants as style

-- the text is the last part of the source, and where neither an anchor nor a tag stands before it, the whole source
abbrev pub IsRestOf : PlainScalar → List ℕ → Type 0
IsRestOf s source =
    (s.text ≡ drop (length source - length s.text) source) × (s.anchor ≡ None → s.tag ≡ None → s.text ≡ source)

-- where the scalar is plain and its source is known and has no line break, its text stands there
abbrev pub SaysItsSource : PlainScalar → Type 0
SaysItsSource s = IfSome s.source (λ source. s.style ≡ style.Plain → IsOneLine source → IsRestOf s source)

-- the scalar of an event, if it has one
abbrev pub scalar_in : PlainEvent → Option PlainScalar
scalar_in (scalar s) = Some s
scalar_in _ = None

-- so it is with the scalar of the event, if it has one
abbrev pub SaysSource : PlainEvent → Type 0
SaysSource event = IfSome (scalar_in event) SaysItsSource

-- so it is with each of the events
abbrev pub SaySources : List (Event × Position) → Type 0
SaySources events = All (λ e. SaysSource (event_of e.0)) events

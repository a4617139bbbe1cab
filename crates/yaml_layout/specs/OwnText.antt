-- Where the own text of a scalar stands: its source but for its anchor and its tag, for comments between them, and for
-- the first line of a block.
use Rattle.std.specs.Prelude.{ℕ, ◌+◌, ◌==◌, ◌||◌, if◌then◌else◌, not, Bool, true, false}
use Rattle.std.specs.Prelude.{List, [], ◌∷◌, ◌++◌, Option, None, Some, length, option_and_then}
use Rattle.std.specs.List.{between}
use Rattle.std.specs.Option.{option_map}
use Rattle.yaml_base.specs.PlainEvent.{PlainEvent, event_of}
use Rattle.yaml_base.specs.Position.{Position}
use Rattle.yaml_base.specs.declared.event.Event.{Event}
use Rattle.yaml_layout.specs.declared.comments.Head.{Head}
use Rattle.yaml_layout.specs.declared.comments.Head.TheVariants as at
use Rattle.yaml_parse.specs.PlainText.{scalar_in}

-- a space or a tab
abbrev pub is_blank : ℕ → Bool
is_blank b = b == 0x20 || b == 0x09

-- a line feed or a carriage return
abbrev pub ends_line : ℕ → Bool
ends_line b = b == 0x0A || b == 0x0D

-- `&` or `!`
abbrev pub begins_name : ℕ → Bool
begins_name b = b == 0x26 || b == 0x21

-- `|` or `>`
abbrev pub begins_block : ℕ → Bool
begins_block b = b == 0x7C || b == 0x3E

-- whether the own text begins with a byte: with the first that belongs neither to a name nor to a comment, or in a
-- block behind the first line
abbrev pub begins : Head → ℕ → Bool
begins at.Gap b = not ((is_blank b || ends_line b) || (begins_name b || (b == 0x23 || begins_block b)))
begins at.Name b = false
begins at.Comment b = false
begins at.Line b = false
begins at.Body b = true

-- where the byte behind one stands
abbrev pub next_head : Head → ℕ → Head
next_head at.Gap b = if begins_name b then at.Name else if b == 0x23 then at.Comment
    else if begins_block b then at.Line else at.Gap
next_head at.Name b = if is_blank b || ends_line b then at.Gap else at.Name
next_head at.Comment b = if ends_line b then at.Gap else at.Comment
next_head at.Line b = if ends_line b then at.Body else at.Line
next_head at.Body b = at.Body

-- how many bytes stand before the own text
abbrev pub head_from : Head → List ℕ → ℕ
head_from state [] = 0
head_from state (b ∷ bytes) = if begins state b then 0 else 1 + head_from (next_head state b) bytes

abbrev pub before_own : List ℕ → ℕ
before_own source = head_from at.Gap source

-- where the own text of an event's scalar begins and ends, if it has one
abbrev pub own_text : PlainEvent → Position → Option (ℕ × ℕ)
own_text event mark = option_and_then (λ s. option_map
    (λ source. (mark.index + before_own source, mark.index + length source)) s.source) (scalar_in event)

-- what stands before the place where the own text begins, and where the text goes on
abbrev pub cut : List ℕ → ℕ → Option (ℕ × ℕ) → List ℕ × ℕ
cut text from None = ([], from)
cut text from (Some own) = (between from own.0 text, own.1)

-- the text from a place on without the own texts of its scalars, which follow each other
abbrev pub outside : List ℕ → ℕ → List (Event × Position) → List ℕ
outside text from [] = between from (length text) text
outside text from (e ∷ events) =
    let part = cut text from (own_text (event_of e.0) e.1) in
    part.0 ++ outside text part.1 events

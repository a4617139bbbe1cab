-- Places behind documents of a text, to go back to.
use Rattle.std.specs.Prelude.{◌≡◌, List, Option, None, Some, [], ℕ}
use Rattle.yaml_base.specs.Position.{Position}
use Rattle.yaml_base.specs.declared.event.Event.{Event}
use Rattle.yaml_checked.specs.PlainTape.{PlainPlace}

-- the events before a place, or none at the text's beginning
abbrev pub given_before : Option PlainPlace → List (Event × Position)
given_before None = []
given_before (Some place) = place.given

-- a place of this text, if one is kept
abbrev pub IsPlaceIn : List ℕ → Option PlainPlace → Type 0
IsPlaceIn text None = Unit {0}
IsPlaceIn text (Some place) = place.text ≡ text

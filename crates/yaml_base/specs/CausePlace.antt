-- Where a fault is.
use Rattle.std.specs.Prelude.{Option, None, Some}
use Rattle.std.specs.Option.{option_map}
use Rattle.yaml_base.specs.Position.{Position}
use Rattle.yaml_base.specs.declared.error.Cause.{Cause}
use Rattle.yaml_base.specs.declared.error.Cause.TheVariants as cause
use Rattle.yaml_base.specs.declared.error.Place.{Place}

-- the place of a fault of reading, if it has one yet
abbrev pub cause_place : Cause → Option Place
cause_place (cause.InvalidType found expected place) = place
cause_place (cause.InvalidValue found expected place) = place
cause_place (cause.InvalidLength n expected place) = place
cause_place (cause.UnknownVariant variant known place) = place
cause_place (cause.UnknownField name known place) = place
cause_place (cause.MissingField name place) = place
cause_place (cause.DuplicateField name place) = place
cause_place (cause.DuplicateEntry key place) = place
cause_place (cause.NestedEnum name tag place) = place
cause_place (cause.FloatUnsupported text place) = place
cause_place (cause.Custom text place) = place
cause_place _ = None

-- the mark of a fault that has one: its own, its problem's or its place's
abbrev pub cause_mark : Cause → Option Position
cause_mark (cause.RecursionLimitExceeded mark) = Some mark
cause_mark (cause.UnknownAnchor mark) = Some mark
cause_mark (cause.Parser fault) = Some fault.mark
cause_mark other = option_map (λ place. place.mark) (cause_place other)

-- a place that is known stays; where there is none, the new one is taken
abbrev pub place_or : Option Place → Place → Option Place
place_or None new = Some new
place_or (Some old) new = Some old

-- the fault with the new place, if it is of a kind that carries a place, and carries none yet; else the fault as it is
abbrev pub filled : Cause → Place → Cause
filled (cause.InvalidType found expected place) new = cause.InvalidType found expected (place_or place new)
filled (cause.InvalidValue found expected place) new = cause.InvalidValue found expected (place_or place new)
filled (cause.InvalidLength n expected place) new = cause.InvalidLength n expected (place_or place new)
filled (cause.UnknownVariant variant known place) new = cause.UnknownVariant variant known (place_or place new)
filled (cause.UnknownField name known place) new = cause.UnknownField name known (place_or place new)
filled (cause.MissingField name place) new = cause.MissingField name (place_or place new)
filled (cause.DuplicateField name place) new = cause.DuplicateField name (place_or place new)
filled (cause.DuplicateEntry key place) new = cause.DuplicateEntry key (place_or place new)
filled (cause.NestedEnum name tag place) new = cause.NestedEnum name tag (place_or place new)
filled (cause.FloatUnsupported text place) new = cause.FloatUnsupported text (place_or place new)
filled (cause.Custom text place) new = cause.Custom text (place_or place new)
filled other new = other

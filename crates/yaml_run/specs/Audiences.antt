-- What programs and people are told of data and of faults.
use Rattle.std.specs.Prelude.{ℕ, ◌==◌, ◌&&◌, List, [], ◌++◌, codes, Option, None, Some, Bool, true, false}
use Rattle.std.specs.Prelude.{if◌then◌else◌}
use Rattle.std.specs.Option.{option_map}
use Rattle.yaml_base.specs.Answer.{is_memory}
use Rattle.yaml_base.specs.CausePlace.{cause_mark}
use Rattle.yaml_base.specs.ErrorText.{error_text}
use Rattle.yaml_base.specs.Position.{Position, counted_from_one}
use Rattle.yaml_base.specs.Quoted.{visible}
use Rattle.yaml_base.specs.declared.error.Cause.{Cause}
use Rattle.yaml_base.specs.declared.error.Cause.TheVariants.{Parser}
use Rattle.yaml_lines.specs.DataText.{data_text}
use Rattle.yaml_shape.specs.PlainData.{PlainData}
use Rattle.yaml_run.specs.declared.audience.Audience.{Audience}
use Rattle.yaml_run.specs.declared.audience.Audience.TheVariants.{Programs, People}

-- the line that a text stands in: as it is for programs, and without control characters for people
abbrev pub told_for : Audience → List ℕ → List ℕ
told_for Programs text = text
told_for People text = visible text

-- the byte where the problem of a parser's fault is, where it has no mark
abbrev pub offset_of : Cause → ℕ
offset_of (Parser fault) = fault.offset
offset_of _ = 0

-- whether this place, counted from 1, is the first one
abbrev pub is_first_place : Option Position → Bool
is_first_place None = false
is_first_place (Some place) = place.line == 1 && place.column == 1

-- whether a fault stands at the start of its text, of which its own text tells no place
abbrev pub is_at_start : Cause → Bool
is_at_start cause = is_first_place (option_map counted_from_one (cause_mark cause)) && offset_of cause == 0

-- a fault, with its line and its column also where these are the first
abbrev pub placed_error : Cause → List ℕ
placed_error cause = error_text cause ++ (if is_at_start cause then codes " at line 1 column 1" else [])

-- a fault, as it is told
abbrev pub fault_told : Audience → Cause → List ℕ
fault_told Programs cause = codes "fault: " ++ error_text cause
fault_told People cause = visible (codes "fault: " ++ placed_error cause)

-- data, as it is told
abbrev pub data_told : Audience → PlainData → List ℕ
data_told audience value = told_for audience (data_text value)

-- whether a cause is told as a fault: want of memory to programs alone
abbrev pub is_told : Audience → Cause → Bool
is_told Programs cause = true
is_told People cause = if is_memory cause then false else true

-- The causes of faults that a caller asks a text of.
use Rattle.std.specs.Prelude.{ℕ, ◌==◌, if◌then◌else◌, List, None, Some}
use Rattle.yaml_base.specs.declared.error.Cause.{Cause}
use Rattle.yaml_base.specs.declared.error.Cause.TheVariants as cause
use Rattle.yaml_c.specs.Rows.{row_place}
use Rattle.yaml_c.specs.declared.rows.YamlRow.{YamlRow}

-- the cause with a number, below 8, at the place of a row, with these words and this path
abbrev pub asked_cause : (number : ℕ) → (place : YamlRow) → (words path : List ℕ) → Cause
asked_cause n place words path =
    if n == 0 then cause.Custom words (Some (record { mark = row_place place; path = path }))
    else (if n == 1 then cause.Custom words None
    else (if n == 2 then cause.RecursionLimitExceeded (row_place place)
    else (if n == 3 then cause.RepetitionLimitExceeded
    else (if n == 4 then cause.EndOfStream
    else (if n == 5 then cause.MoreThanOneDocument
    else (if n == 6 then cause.BytesUnsupported else cause.SerializeNestedEnum))))))

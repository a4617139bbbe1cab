-- The printed text of what was found.
use Rattle.std.specs.Prelude.{ℕ, ℤ, negsuc, ◌-◌, ◌^◌, nat_lt, int_lt, Bool, List, ◌++◌, if◌then◌else◌, codes, decimal}
use Rattle.std.specs.Fmt.{signed_decimal}
use Rattle.yaml_base.specs.Quoted.{quoted_text}
use Rattle.yaml_base.specs.declared.found.Found.{Found}
use Rattle.yaml_base.specs.declared.found.Found.TheVariants as found

-- the word for a boolean
abbrev pub bool_text : Bool → List ℕ
bool_text b = if b then codes "true" else codes "false"

-- the greatest integer of 64 bits without a sign
abbrev pub greatest_u64 : ℕ
greatest_u64 = 2 ^ 64 - 1

-- the least integer of 64 bits with a sign
abbrev pub least_i64 : ℤ
least_i64 = negsuc (2 ^ 63 - 1)

-- what was found; an integer past 64 bits is named by its type too
abbrev pub found_text : Found → List ℕ
found_text (found.Bool b) = codes "boolean `" ++ (bool_text b ++ codes "`")
found_text (found.Unsigned n) =
    codes "integer `" ++ (decimal n ++ (if nat_lt greatest_u64 n then codes "` as u128" else codes "`"))
found_text (found.Signed z) =
    codes "integer `" ++ (signed_decimal z ++ (if int_lt z least_i64 then codes "` as i128" else codes "`"))
found_text (found.Float text) = codes "floating point `" ++ (text ++ codes "`")
found_text (found.Str text) = codes "string " ++ quoted_text text
found_text found.Bytes = codes "byte array"
found_text found.Unit = codes "unit value"
found_text found.Seq = codes "sequence"
found_text found.Map = codes "map"
found_text found.UnitVariant = codes "unit variant"

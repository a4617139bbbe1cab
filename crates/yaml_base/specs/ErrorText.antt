-- The printed texts of a fault: what it says, and where it is.
use Rattle.std.specs.Prelude.{ℕ, ◌+◌, List, [], ◌++◌, if◌then◌else◌, codes, decimal, Option, None, Some}
use Rattle.std.specs.Option.{option_map_or}
use Rattle.std.specs.Str.{bytes_eq}
use Rattle.yaml_base.specs.CausePlace.{cause_mark, cause_place}
use Rattle.yaml_base.specs.CauseText.{message_text}
use Rattle.yaml_base.specs.ParserFaultText.{fault_debug_text, parser_fault_text}
use Rattle.yaml_base.specs.MarkText.{is_start, mark_text}
use Rattle.yaml_base.specs.PlainFault.{PlainFault}
use Rattle.yaml_base.specs.Position.{Position}
use Rattle.yaml_base.specs.Quoted.{quoted_text}
use Rattle.yaml_base.specs.declared.error.Cause.{Cause}
use Rattle.yaml_base.specs.declared.error.Cause.TheVariants.{Parser}
use Rattle.yaml_base.specs.declared.error.Place.{Place}

-- the parser's fault, if the cause is one
abbrev pub parser_fault : Cause → Option PlainFault
parser_fault (Parser fault) = Some fault
parser_fault _ = None

-- the path and a colon, unless the path is the root's
abbrev pub path_part : Option Place → List ℕ
path_part None = []
path_part (Some place) = if bytes_eq place.path (codes ".") then [] else place.path ++ codes ": "

-- the message, behind the path
abbrev pub placed_text : Cause → List ℕ
placed_text cause = path_part (cause_place cause) ++ message_text cause

-- where it happened, unless that is the start or unknown
abbrev pub mark_part : Option Position → List ℕ
mark_part None = []
mark_part (Some mark) = if is_start mark then [] else codes " at " ++ mark_text mark

-- the message with the path in front and the mark behind it; a parser's fault has its own text
abbrev pub error_text : Cause → List ℕ
error_text cause =
    option_map_or parser_fault_text (parser_fault cause) (placed_text cause ++ mark_part (cause_mark cause))

-- where it happened, in debug, counted from 1
abbrev pub mark_debug_part : Option Position → List ℕ
mark_debug_part None = []
mark_debug_part (Some mark) =
    codes ", line: " ++ (decimal (mark.line + 1) ++ (codes ", column: " ++ decimal (mark.column + 1)))

-- the same in debug, with the message between quotes
abbrev pub error_debug_text : Cause → List ℕ
error_debug_text cause = option_map_or fault_debug_text (parser_fault cause)
    (codes "Error(" ++ (quoted_text (placed_text cause) ++ (mark_debug_part (cause_mark cause) ++ codes ")")))

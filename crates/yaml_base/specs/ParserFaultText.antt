-- The printed texts of a parser's fault.
use Rattle.std.specs.Prelude.{ℕ, ◌==◌, ◌||◌, List, [], ◌++◌, if◌then◌else◌, codes, decimal, Option, None, Some}
use Rattle.yaml_base.specs.Position.{Position}
use Rattle.yaml_base.specs.MarkText.{is_beside, is_start, mark_debug_text, mark_text}
use Rattle.yaml_base.specs.PlainFault.{PlainFault}
use Rattle.yaml_base.specs.Quoted.{quoted_text}
use Rattle.yaml_base.specs.declared.fault.FaultKind.{FaultKind}
use Rattle.yaml_base.specs.declared.fault.FaultKind.TheVariants as kind

-- the offset of a problem without a mark, unless it is 0
abbrev pub offset_part : ℕ → List ℕ
offset_part offset = if offset == 0 then [] else codes " at position " ++ decimal offset

-- where the problem is: its mark, or else its offset
abbrev pub problem_part : Position → ℕ → List ℕ
problem_part mark offset = if is_start mark then offset_part offset else codes " at " ++ mark_text mark

-- where the context began, unless that is unknown or where the problem is
abbrev pub context_mark_part : Position → Position → List ℕ
context_mark_part mark context_mark =
    if is_start context_mark || is_beside context_mark mark then [] else codes " at " ++ mark_text context_mark

-- the context, where there is one
abbrev pub context_part : Position → Position → Option (List ℕ) → List ℕ
context_part mark context_mark None = []
context_part mark context_mark (Some context) = codes ", " ++ (context ++ context_mark_part mark context_mark)

-- the problem, where it is, and the context
abbrev pub parser_fault_text : PlainFault → List ℕ
parser_fault_text f = f.problem ++ (problem_part f.mark f.offset ++ context_part f.mark f.context_mark f.context)

-- the kind in debug, unless it is another
abbrev pub kind_debug_part : FaultKind → List ℕ
kind_debug_part kind.Memory = codes "kind: MEMORY, "
kind_debug_part kind.Reader = codes "kind: READER, "
kind_debug_part kind.Scanner = codes "kind: SCANNER, "
kind_debug_part kind.Parser = codes "kind: PARSER, "
kind_debug_part kind.Composer = codes "kind: COMPOSER, "
kind_debug_part kind.Writer = codes "kind: WRITER, "
kind_debug_part kind.Emitter = codes "kind: EMITTER, "
kind_debug_part kind.Other = []

-- the offset in debug, unless it is 0
abbrev pub offset_debug_part : ℕ → List ℕ
offset_debug_part offset = if offset == 0 then [] else codes ", problem_offset: " ++ decimal offset

-- where the problem is, in debug: its mark, or else its offset
abbrev pub problem_debug_part : Position → ℕ → List ℕ
problem_debug_part mark offset =
    if is_start mark then offset_debug_part offset else codes ", problem_mark: " ++ mark_debug_text mark

-- where the context began, in debug, unless that is unknown
abbrev pub context_mark_debug_part : Position → List ℕ
context_mark_debug_part mark = if is_start mark then [] else codes ", context_mark: " ++ mark_debug_text mark

-- the context in debug, where there is one
abbrev pub context_debug_part : Position → Option (List ℕ) → List ℕ
context_debug_part mark None = []
context_debug_part mark (Some context) = codes ", context: " ++ (quoted_text context ++ context_mark_debug_part mark)

-- the parts that are there, by their names
abbrev pub fault_debug_text : PlainFault → List ℕ
fault_debug_text f = codes "Error { " ++ (kind_debug_part f.kind ++ (codes "problem: " ++ (quoted_text f.problem
    ++ (problem_debug_part f.mark f.offset ++ (context_debug_part f.context_mark f.context ++ codes " }")))))

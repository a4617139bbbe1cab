-- How a line writes the fault of the parser, behind its mark and the word for one.
use Rattle.std.specs.Prelude.{◌≡◌, List, ℕ, ◌∷◌, ◌++◌, codes, None}
use Rattle.std.specs.Str.{IsUtf8}
use Rattle.yaml_base.specs.PlainFault.{PlainFault}
use Rattle.yaml_base.specs.declared.fault.FaultKind.{FaultKind}
use Rattle.yaml_base.specs.declared.fault.FaultKind.TheVariants.{Memory, Reader, Scanner, Parser}
use Rattle.yaml_base.specs.declared.fault.FaultKind.TheVariants.{Composer, Writer, Emitter, Other}
use Rattle.yaml_lines.specs.Escape.{Spells}
use Rattle.yaml_lines.specs.Place.{HasNumber}

-- the name of a kind
abbrev pub kind_name : FaultKind → List ℕ
kind_name Memory = codes "MEMORY"
kind_name Reader = codes "READER"
kind_name Scanner = codes "SCANNER"
kind_name Parser = codes "PARSER"
kind_name Composer = codes "COMPOSER"
kind_name Writer = codes "WRITER"
kind_name Emitter = codes "EMITTER"
kind_name Other = codes "OTHER"

-- the kind, the offset and the problem, with a space (32) between; the problem is UTF-8, and there is no context
pub record IsSpelledFault (text : List ℕ) (fault : PlainFault) : Type 0 where
  pub behind_kind : List ℕ
  pub behind_offset : List ℕ
  pub split : text ≡ kind_name fault.kind ++ 32 ∷ behind_kind
  pub has_offset : HasNumber behind_kind 32 fault.offset behind_offset
  pub spelled : Spells behind_offset fault.problem
  pub is_text : IsUtf8 fault.problem
  pub no_context : fault.context ≡ None
  pub same_mark : fault.context_mark ≡ fault.mark

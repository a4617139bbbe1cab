-- What a line says.
use Rattle.std.specs.Prelude.{◌≡◌, List, ℕ, ◌++◌, codes}
use Rattle.yaml_base.specs.Position.{Position}
use Rattle.yaml_base.specs.PlainEvent.{PlainEvent, event_of}
use Rattle.yaml_base.specs.PlainFault.{PlainFault}
use Rattle.yaml_lines.specs.declared.line.Line.{Line}
use Rattle.yaml_lines.specs.declared.line.Line.TheVariants as line
use Rattle.yaml_lines.specs.EventText.{IsEventText}
use Rattle.yaml_lines.specs.SpelledFault.{IsSpelledFault}
use Rattle.yaml_lines.specs.Place.{IsMarked}

-- an event and its mark, or the fault of the parser
pub data Said : Type 0 where
  says_event : PlainEvent → Position → Said
  says_fault : PlainFault → Said

-- what a line of the program says
abbrev pub said_of : Line → Said
said_of (line.Event event mark) = says_event (event_of event) mark
said_of (line.Fault fault) = says_fault fault

-- what stands behind the mark of a line says this
abbrev pub IsSaid : List ℕ → Position → Said → Type 0
IsSaid text mark (says_event event at) = (at ≡ mark) × IsEventText text event
IsSaid text mark (says_fault fault) =
    (fault.mark ≡ mark) × (rest : List ℕ) × (text ≡ codes "!ERR " ++ rest) × IsSpelledFault rest fault

-- the line says this
pub record IsLine (line : List ℕ) (said : Said) : Type 0 where
  pub mark : Position
  pub text : List ℕ
  pub is_marked : IsMarked line mark text
  pub is_said : IsSaid text mark said

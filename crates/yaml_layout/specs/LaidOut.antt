-- What is kept of a text that is laid out anew.
use Rattle.std.specs.Prelude.{ℕ, ◌≡◌, ◌≢◌, ◌-◌, ◌<◌, List, None, Some, length, slice_index}
use Rattle.yaml_base.specs.Position.{Position}
use Rattle.yaml_base.specs.declared.event.Event.{Event}
use Rattle.yaml_documents.specs.TextEvents.{AreParsed}
use Rattle.yaml_layout.specs.Comments.{comments_of}
use Rattle.yaml_layout.specs.Said.{said}
use Rattle.yaml_layout.specs.declared.fault.LayoutFault.{LayoutFault}
use Rattle.yaml_layout.specs.declared.fault.LayoutFault.TheVariants.{Memory, NoYaml, NotKept}

-- Each line ends with a line feed alone, the last one too.
pub record HasWholeLines (text : List ℕ) : Type 0 where
  pub feeds : (k : ℕ) → k < length text → slice_index text k ≢ 0x0D
  pub last : 0 < length text → slice_index text (length text - 1) ≡ 0x0A

-- Both are YAML texts. Their events say the same, with the same styles, anchors, aliases and tags, and their comments
-- are the same, in the same order. The lines of the second are whole.
pub record IsLaidOut (text out : List ℕ) : Type 0 where
  pub before : List (Event × Position)
  pub after : List (Event × Position)
  pub parsed : AreParsed text before None
  pub parsed_again : AreParsed out after None
  pub events : said after ≡ said before
  pub comments : comments_of out after ≡ comments_of text before
  pub lines : HasWholeLines out

-- A text was refused: memory ran out, or it is no YAML and this is the parser's fault, or it is YAML and something of
-- it would not be kept.
abbrev pub IsRefused : List ℕ → LayoutFault → Type 0
IsRefused text Memory = Unit {0}
IsRefused text (NoYaml fault) = (events : List (Event × Position)) × AreParsed text events (Some fault)
IsRefused text (NotKept reason mark) = (events : List (Event × Position)) × AreParsed text events None

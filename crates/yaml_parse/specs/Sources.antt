-- Where the events of a text come from.
use Rattle.std.specs.Prelude.{◌≡◌, ℕ, List, []}
use Rattle.yaml_base.specs.Position.{Position}
use Rattle.yaml_base.specs.declared.event.Event.{Event}
use Rattle.yaml_parse.specs.Handed.{handed_out, made_so_far, waiting}
use Rattle.yaml_parse.specs.declared.events.Source.{Source}
use Rattle.yaml_parse.specs.declared.events.Source.TheVariants.{Text, Unread}
use Rattle.yaml_scan.specs.AllowedText.{IsAllowed, IsOfReader}

-- a text that is allowed has tokens, and no other has
abbrev pub IsSourceOf : List ℕ → Source → Type 0
IsSourceOf text (Text reading) = IsAllowed text × (reading.parser.text.now ≡ text)
IsSourceOf text (Unread fault) = IsOfReader text fault.kind fault.offset

-- the events that were handed out
abbrev pub given_by : Source → List (Event × Position)
given_by (Text reading) = handed_out reading.parser
given_by (Unread fault) = []

-- how many events wait
abbrev pub waiting_in : Source → ℕ
waiting_in (Text reading) = waiting reading.parser
waiting_in (Unread fault) = 0

-- no event waits
abbrev pub IsSpent : Source → Type 0
IsSpent (Text reading) = handed_out reading.parser ≡ made_so_far reading.parser
IsSpent (Unread fault) = Unit {0}

-- What came of printing.
use Rattle.std.specs.Prelude.{◌≡◌, ◌≤◌, ℕ, List, [], ◌∷◌, ◌++◌, string_bytes}
use Rattle.yaml_base.specs.EmitEvents.{PlainEmit}
use Rattle.yaml_base.specs.EmitTree.{IsEmitStream}
use Rattle.yaml_c.specs.Refused.{IsRefusedAt}
use Rattle.yaml_c.specs.RowEvents.{AreEach, AreEventsOf, IsEventOf}
use Rattle.yaml_c.specs.declared.print.Outcome.{Outcome}
use Rattle.yaml_c.specs.declared.print.Outcome.TheVariants.{Text, Refused, Memory}
use Rattle.yaml_c.specs.declared.print.Refusal.{Refusal}
use Rattle.yaml_c.specs.declared.print.Refusal.TheVariants as refusal
use Rattle.yaml_c.specs.declared.print.Stop.{Stop}
use Rattle.yaml_c.specs.declared.print.Stop.TheVariants as stop
use Rattle.yaml_c.specs.declared.rows.YamlRow.{YamlRow}
use Rattle.yaml_emit.specs.StreamTexts.{IsStreamText}

-- if it is a text, it is that of these events; if none is given at a place, that is none beyond the last row, and they
-- are no stream
abbrev pub IsTextOf : Outcome → List PlainEmit → (rows : ℕ) → Type 0
IsTextOf (Text text) events rows = IsStreamText events (string_bytes text)
IsTextOf (Refused place) events rows = (place ≤ rows) × (IsEmitStream events → ⊥)
IsTextOf Memory events rows = Unit {0}

-- if it is a text, it is that of the stream that the rows are; if none is given at a place, they are refused there
abbrev pub IsPrinted : Outcome → List YamlRow → (source texts : List ℕ) → Type 0
IsPrinted (Text text) rows source texts =
    (events : List PlainEmit) × AreEventsOf rows source texts events × IsStreamText events (string_bytes text)
IsPrinted (Refused place) rows source texts = IsRefusedAt rows source texts place
IsPrinted Memory rows source texts = Unit {0}

-- the event of a row was added behind those that there were
pub record AddsRow (source texts : List ℕ) (row : YamlRow) (old new : List PlainEmit) : Type 0 where
  pub event : PlainEmit
  pub of_row : IsEventOf source texts row event
  pub added : new ≡ old ++ event ∷ []

-- the events of the rows, one of each, were added behind those that there were
pub record AddsEach (rows : List YamlRow) (source texts : List ℕ) (old new : List PlainEmit) : Type 0 where
  pub more : List PlainEmit
  pub of_rows : AreEach source texts rows more
  pub added : new ≡ old ++ more

-- the events of the first rows were added, and these rows are left
pub record AddsFirst (rows left : List YamlRow) (source texts : List ℕ) (old new : List PlainEmit) : Type 0 where
  pub handed : List YamlRow
  pub rest : handed ++ left ≡ rows
  pub adds : AddsEach handed source texts old new

-- if it stops since a row is wrong, this holds
abbrev pub IfWrong : Type 0 → Stop → Type 0
IfWrong Holds stop.Wrong = Holds
IfWrong Holds stop.Memory = Unit {0}

-- if the row in a place is refused, this holds of the place
abbrev pub IfRow : (ℕ → Type 0) → Refusal → Type 0
IfRow Holds (refusal.Row place) = Holds place
IfRow Holds refusal.Memory = Unit {0}

-- what comes of rows that are not written
abbrev pub outcome_of : Refusal → Outcome
outcome_of (refusal.Row place) = Refused place
outcome_of refusal.Memory = Memory

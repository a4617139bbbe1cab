-- Where a reader stands, and what its steps keep.
use Rattle.std.specs.Prelude.{ℕ, List, ◌≡◌, ◌≢◌, ◌≤◌, ◌++◌, length}
use Rattle.yaml_tape.specs.Pushes.{marked_on}
use Rattle.yaml_base.specs.PlainEvent.{PlainEvent}
use Rattle.yaml_base.specs.Position.{Position}
use Rattle.yaml_direct.specs.declared.reader.Reader.{Reader}

-- the answer where no place was reached
abbrev pub no_place : ℕ
no_place = 18446744073709551615

-- a place in the line that was begun last, and in the text
abbrev pub IsHere : Reader → ℕ → Type 0
IsHere r place = (r.line_start ≤ place) × (place ≤ length r.text.now)

-- events are only added
pub record Grows (old new : Reader) : Type 0 where
  pub more : List (PlainEvent × Position)
  pub added : marked_on new.tape ≡ marked_on old.tape ++ more

-- the text stays, events are added, and if a place was reached, it is not before this one, and in the line begun last
abbrev pub Reaches : (old new : Reader) → (from to : ℕ) → Type 0
Reaches old new from to =
    (new.text.now ≡ old.text.now) × (Grows old new
    × (to ≢ no_place → (from ≤ to) × ((new.line_start ≤ to) × (to ≤ length old.text.now))))

-- the text, the line and the node stay
abbrev pub Keeps : (old new : Reader) → Type 0
Keeps old new =
    (new.text.now ≡ old.text.now) × ((new.line_start ≡ old.line_start) × ((new.start ≡ old.start) × Grows old new))

-- texts that the source does not show are only added
abbrev pub IsLonger : (old new : Reader) → Type 0
IsLonger old new = length old.tape.arena.items ≤ length new.tape.arena.items

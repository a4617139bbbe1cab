-- What is added to a tape.
use Rattle.std.specs.Prelude.{ℕ, List, [], ◌∷◌, ◌++◌, ◌≡◌, ◌≤◌, Option, Some, true, length, slice_get, slice_range}
use Rattle.std.specs.List.{insert}
use Rattle.yaml_base.specs.PlainEvent.{PlainEvent, scalar}
use Rattle.yaml_base.specs.Position.{Position}
use Rattle.yaml_base.specs.declared.event.ScalarStyle.{ScalarStyle}
use Rattle.yaml_tape.specs.OnTape.{marked_of, kept_in, position_at, starts}
use Rattle.yaml_tape.specs.declared.entry.Entry.{Entry}
use Rattle.yaml_tape.specs.declared.entry.Piece.{Piece}
use Rattle.yaml_tape.specs.declared.entry.Spot.{Spot}
use Rattle.yaml_tape.specs.declared.tape.Tape.{Tape}

-- the events of a tape, each with its mark
abbrev pub marked_on : Tape → List (PlainEvent × Position)
marked_on t = marked_of t.text.now t.arena.items t.names.items t.entries.items

-- the text stays, and so do the events
pub record Stays (old new : Tape) : Type 0 where
  pub text : new.text.now ≡ old.text.now
  pub events : marked_on new ≡ marked_on old

-- the text stays, and one event was added, with its mark
pub record Adds (old new : Tape) (event : PlainEvent) (spot : Spot) : Type 0 where
  pub text : new.text.now ≡ old.text.now
  pub events : marked_on new ≡ marked_on old ++ (event, position_at old.text.now spot.index spot.late) ∷ []

-- the text stays, and one event was added behind so many and before the others, with its mark
pub record Inserts (old new : Tape) (count : ℕ) (event : PlainEvent) (spot : Spot) : Type 0 where
  pub text : new.text.now ≡ old.text.now
  pub events : marked_on new
      ≡ insert (marked_on old) count (event, position_at old.text.now spot.index spot.late)

-- the text of a piece
abbrev pub piece_of : Tape → Piece → List ℕ
piece_of t p = slice_range (kept_in t.text.now t.arena.items p.stored) p.from p.to

-- which lies within the source or the arena
pub record IsPiece (t : Tape) (p : Piece) : Type 0 where
  pub forward : p.from ≤ p.to
  pub within : p.to ≤ length (kept_in t.text.now t.arena.items p.stored)

-- the scalar that begins in a spot, and whose source ends in a place
abbrev pub scalar_at : Tape → Spot → (anchor tag : Option (List ℕ)) → List ℕ → ScalarStyle → (end : ℕ) → PlainEvent
scalar_at t spot anchor tag text style end = scalar (record {
  anchor = anchor;
  tag = tag;
  text = text;
  style = style;
  source = Some (slice_range t.text.now spot.index end);
})

-- if a collection begins with the entry in a place, it says that it ends in another
abbrev pub EndsAt : List Entry → (start end : ℕ) → Type 0
EndsAt entries start end = (e : Entry) → slice_get entries start ≡ Some e → starts e.kind ≡ true → e.end ≡ end

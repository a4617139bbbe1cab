-- A step that tells where the next node stands.
use Rattle.std.specs.Prelude.{◌≡◌, ℕ, ◌+◌, List, ◌++◌, slice_get, Option, Some, true, false}
use Rattle.std.specs.Int.{to_le_bytes, w64}
use Rattle.std.specs.Option.{option_map}
use Rattle.yaml.specs.Around.{Standing, next_target}
use Rattle.yaml_base.specs.PlainDocument.{PlainDocument}
use Rattle.yaml_base.specs.Position.{Position}

-- what tells of a mark: its line and its column, counted from 1, and its index, in eight bytes each, the lowest first
abbrev pub place_bytes : Position → List ℕ
place_bytes m = to_le_bytes w64 (m.line + 1) ++ (to_le_bytes w64 (m.column + 1) ++ to_le_bytes w64 m.index)

-- the mark of the event in a place
abbrev pub mark_in : PlainDocument → ℕ → Option Position
mark_in document place = option_map (λ e. e.1) (slice_get document.events place)

-- A map was begun. In place of its first key it was asked where the next node begins, or the one that it stands for,
-- and the reading stands before that node as if no map were begun.
pub record TookPlace (bytes : List ℕ) (old new : Standing) : Type 0 where
  pub begun : old.spot.begun ≡ true
  pub mark : Position
  pub marked : mark_in old.document (next_target old) ≡ Some mark
  pub tells : bytes ≡ place_bytes mark
  pub stays : new ≡ record old { spot = record old.spot { begun = false } }

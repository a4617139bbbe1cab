-- Tables that stand in a larger one, with their numbers moved.
use Rattle.std.specs.Prelude.{ℕ, ◌≡◌, ◌+◌, ◌<◌, List, [], ◌∷◌, length}
use Rattle.std.specs.Option.{option_map}
use Rattle.yaml_shape.specs.PlainShape.{PlainShape, shape_at}
use Rattle.yaml_shape.specs.PlainData.{PlainData}
use Rattle.yaml_shape.specs.HasShape.{has_shape}
use Rattle.yaml_shape.specs.Join.{raised}

-- each shape of the part stands in the whole so much later, and the numbers that it names are raised by as much
abbrev pub IsRaisedIn : ℕ → List PlainShape → List PlainShape → Type 0
IsRaisedIn by part whole =
    (id : ℕ) → id < length part → shape_at whole (by + id) ≡ option_map (raised by) (shape_at part id)

-- data is of a shape of the part just where it is of the shape so much later in the whole
abbrev pub KeepsShapes : ℕ → List PlainShape → List PlainShape → Type 0
KeepsShapes by part whole = (id : ℕ) → (d : PlainData) → id < length part
    → has_shape whole (by + id) d ≡ has_shape part id d

-- so it is for each part, the first so much later, and the others behind it in a row
abbrev pub KeepsAllShapes : ℕ → List (List PlainShape × ℕ) → List PlainShape → Type 0
KeepsAllShapes by [] whole = Unit {0}
KeepsAllShapes by (part ∷ parts) whole = KeepsShapes by part.0 whole × KeepsAllShapes (by + length part.0) parts whole

-- Tables of shapes that have the table of a type in them.
use Rattle.std.specs.Prelude.{ℕ, ◌≡◌, ◌+◌, List, ◌++◌, map, length, Some}
use Rattle.yaml_shape.specs.Join.{raised}
use Rattle.yaml_shape.specs.PlainShape.{PlainShape, shape_at}
use Rattle.yaml_types.specs.Start.{Start}

-- The table has these shapes behind so many others, each number that they name raised past those.
pub record HasShapes (table : List PlainShape) (by : ℕ) (shapes : List PlainShape) : Type 0 where
  pub before : List PlainShape
  pub after : List PlainShape
  pub behind : length before ≡ by
  pub same : table ≡ before ++ (map (raised by) shapes ++ after)

-- the shape of a type in a table that has the type's shapes
pub record IsShapeIn (start : Start) (table : List PlainShape) (s : PlainShape) : Type 0 where
  pub by : ℕ
  pub shapes : HasShapes table by start.0
  pub at : shape_at table (by + start.1) ≡ Some s

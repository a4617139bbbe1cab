-- The shapes of types in a row, in a table that has theirs.
use Rattle.std.proofs.Common.{◌≡◌, ◌+◌, ℕ, List, [], ◌∷◌, ◌++◌, map, length, sym, ◌∙◌, subst, arith, All}
use Rattle.std.proofs.Common.{append_assoc}
use Rattle.std.specs.Prelude.{Some}
use Rattle.std.proofs.lemmas.List.{append-nil}
use Rattle.std.proofs.lemmas.List.Elements.{All-head, All-tail}
use Rattle.yaml_shape.specs.Join.{raised, raised_ids, joined_tables, joined_all, starts_behind}
use Rattle.yaml_shape.specs.PlainShape.{PlainShape, shape_at, row_shape, unnamed}
use Rattle.yaml_shape.proofs.PartLaws.{length-joined_tables}
use Rattle.yaml_types.specs.RowMeans.{AreShapesIn}
use Rattle.yaml_types.specs.Start.{Start, IsClosed, tuple_start}
use Rattle.yaml_types.specs.Tables.{HasShapes, IsShapeIn}
use Rattle.yaml_types.proofs.TableLaws.{front_shapes, behind_shapes, part_shape, last_shape}

-- the first table is in front of those that are joined to it
joined_front : (first : List PlainShape) (parts : List Start)
    → (rest : List PlainShape) × (joined_all first parts ≡ first ++ rest)
joined_front first [] = ([], sym (append-nil first))
joined_front first (part ∷ parts) =
    let (rest, same) = joined_front (joined_tables first part.0) parts in
    (map (raised (length first)) part.0 ++ rest, same ∙ append_assoc first (map (raised (length first)) part.0) rest)

-- where the shapes of types are in a row behind others, each type's are
pub row_shapes : (table : List PlainShape) (by : ℕ) (first : List PlainShape) (parts : List Start)
    → All IsClosed parts → HasShapes table by (joined_all first parts)
    → AreShapesIn parts table (raised_ids by (starts_behind (length first) parts))
row_shapes table by first [] c h = tt
row_shapes table by first (part ∷ parts) c h =
    let (rest, same) = joined_front (joined_tables first part.0) parts in
    let two : HasShapes table by (joined_tables first part.0) =
    front_shapes table (joined_tables first part.0) rest by (subst (HasShapes table by) same h) in
    let (s, at, shaped) =
    part_shape part table (by + length first) (All-head IsClosed part parts c)
    (behind_shapes table first part.0 by two) in
    let place : (by + length first) + part.1 ≡ by + (length first + part.1) = omega arith in (
      (s, subst (λ n. shape_at table n ≡ Some s) place at, shaped),
      subst (λ n. AreShapesIn parts table (raised_ids by (starts_behind n parts))) (length-joined_tables first part.0)
          (row_shapes table by (joined_tables first part.0) parts (All-tail IsClosed part parts c) h),
    )

-- tuples
pub tuple_shaped : (parts : List Start) → All IsClosed parts → (table : List PlainShape) (s : PlainShape)
    → IsShapeIn (tuple_start parts) table s
    → (ids : List ℕ) × (s ≡ row_shape unnamed ids) × AreShapesIn parts table ids
tuple_shaped parts c table s h =
    let l = last_shape (joined_all [] parts) (row_shape unnamed (starts_behind 0 parts)) table s h in
    (raised_ids l.by (starts_behind 0 parts), l.is, row_shapes table l.by [] parts c l.others)

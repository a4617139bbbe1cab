-- The joins as the code makes them.
use Rattle.std.proofs.Common.{◌≡◌, ◌<◌, ◌≤◌, ◌+◌, ℕ, List, [], ◌∷◌, ◌++◌, map, length, sym, ◌∙◌, ap, subst, All}
use Rattle.std.proofs.Common.{arith}
use Rattle.std.specs.Prelude.{Result, Ok, Err, IfOk}
use Rattle.std.proofs.lemmas.List.{length-map, map-append}
use Rattle.std.proofs.lemmas.List.Elements.{All-weaker}
use Rattle.yaml_shape.specs.PlainShape.{PlainShape}
use Rattle.yaml_shape.specs.ShapeView.{shape_of}
use Rattle.yaml_shape.specs.Validity.{named, NamesWithin, HasDistinctNames, IsValidSchema}
use Rattle.yaml_shape.specs.Join.{raised, joined_tables, IsWith}
use Rattle.yaml_shape.specs.declared.shape.Shape.{Shape}
use Rattle.yaml_shape.specs.declared.shape.ShapeId.{ShapeId}
use Rattle.yaml_shape.specs.declared.fault.SchemaFault.{SchemaFault}
use Rattle.yaml_shape.specs.Kept.{KeepsShapes}
use Rattle.yaml_shape.proofs.NumberLaws.{All-from_map}
use Rattle.yaml_shape.proofs.Stands.{keeps_first}
use Rattle.yaml_shape.proofs.JoinWalks.{valid-joined_tables, valid-added}

-- a valid table with one more shape
pub pushed_valid : (old new : List Shape) (shape : Shape) (table : List PlainShape) → map shape_of old ≡ table
    → new ≡ old ++ shape ∷ []
    → IsValidSchema (map shape_of old) → NamesWithin (length table) (shape_of shape)
    → HasDistinctNames (shape_of shape) → length old < 4096
    → IsValidSchema (map shape_of new)
pushed_valid old new shape table seen made valid within distinct few =
    let size : length (map shape_of old) ≡ length old = length-map old shape_of in
    subst IsValidSchema (sym (ap (map shape_of) made ∙ map-append shape_of old (shape ∷ [])))
    (valid-added (map shape_of old) (shape_of shape) valid (subst (λ t. NamesWithin (length t) (shape_of shape))
    (sym seen) within) distinct (omega arith))

-- a valid table with another behind it, raised
pub appended_valid : (first second moved new : List Shape) (by : ℕ) → new ≡ first ++ moved → by ≡ length first
    → map shape_of moved ≡ map (raised by) (map shape_of second) → IsValidSchema (map shape_of first)
    → IsValidSchema (map shape_of second)
    → length first + length second ≤ 4096 → IsValidSchema (map shape_of new)
appended_valid first second moved new by made size raise a b few =
    let one : length (map shape_of first) ≡ length first = length-map first shape_of in
    let two : length (map shape_of second) ≡ length second = length-map second shape_of in
    let same : by ≡ length (map shape_of first) = size ∙ sym one in
    let join : map shape_of new ≡ joined_tables (map shape_of first) (map shape_of second) =
    ap (map shape_of) made
    ∙ (map-append shape_of first moved ∙ ap (λ l. map shape_of first ++ l) (raise
    ∙ ap (λ n. map (raised n) (map shape_of second)) same)) in
    subst IsValidSchema (sym join) (valid-joined_tables (map shape_of first) (map shape_of second) a b (omega arith))

-- a valid table's numbers are small
pub all_small : (shapes : List Shape) → IsValidSchema (map shape_of shapes) → All (λ s. NamesWithin
    4096 (shape_of s)) shapes
all_small shapes valid =
    All-from_map (NamesWithin 4096) shape_of shapes
    (All-weaker (NamesWithin (length (map shape_of shapes))) (NamesWithin
    4096) small (map shape_of shapes) valid.closed)
  where
    small : (s : PlainShape) → NamesWithin (length (map shape_of shapes)) s → NamesWithin 4096 s
    small s h = All-weaker (λ id. id < length (map shape_of shapes)) (λ id. id < 4096)
        (λ id l. omega (arith, valid.few)) (named s) h

-- a table keeps its data when one more shape is added
pub pushed_keeps : (old new : List Shape) (shape : Shape) (table : List PlainShape) → map shape_of old ≡ table
    → new ≡ old ++ shape ∷ []
    → IsValidSchema (map shape_of old) → KeepsShapes 0 table (map shape_of new)
pushed_keeps old new shape table seen made valid =
    subst (KeepsShapes 0 table)
    (sym (ap (map shape_of) made
    ∙ (map-append shape_of old (shape ∷ []) ∙ ap (λ t. t ++ (shape_of shape ∷ [])) seen)))
    (keeps_first table (shape_of shape ∷ []) (subst IsValidSchema seen valid))

-- what is so of each table with this shape behind it is so of the answer
pub answered : (r : Result (List PlainShape × ShapeId) SchemaFault) (table : List PlainShape) (shape : PlainShape)
    (P : List PlainShape → Type 0)
    → P (table ++ shape ∷ []) → IfOk r (IsWith table shape) → IfOk r (λ a. P a.0)
answered (Ok a) table shape P h is = subst P (sym is.table) h
answered (Err e) table shape P h is = tt

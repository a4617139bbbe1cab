-- What is read of nodes of a tape, one after another, each of a type of its own.
use Rattle.std.specs.Prelude.{ℕ, ◌≡◌, ◌≤◌, ◌+◌, List, [], ◌∷◌, ◌++◌, map, length, replicate, Some}
use Rattle.yaml_base.specs.DocTree.{DocNode, DocNodes, events_of_nodes}
use Rattle.yaml_shape.specs.PlainData.{PlainData, PlainItems}
use Rattle.yaml_shape.specs.PlainShape.{PlainShape, shape_at}
use Rattle.yaml_meaning.specs.Meaning.{MeanRow}
use Rattle.yaml_tape.specs.OnDocs.{docs_from}
use Rattle.yaml_tape.specs.declared.tape.Tape.{Tape}
use Rattle.yaml_types.specs.BuiltParts.{BuiltItems}
use Rattle.yaml_types.specs.Start.{Start}
use Rattle.yaml_types.specs.Tables.{IsShapeIn}

-- as many numbers of a table as types, each of the shape of its own
abbrev pub AreShapesIn : List Start → (table : List PlainShape) → (ids : List ℕ) → Type 0
AreShapesIn [] table [] = Unit {0}
AreShapesIn (start ∷ starts) table (id ∷ ids) =
    ((s : PlainShape) × (shape_at table id ≡ Some s) × IsShapeIn start table s) × AreShapesIn starts table ids
AreShapesIn _ table _ = ⊥

-- The nodes between two places of the tape are as many as the types, and mean, each under the shape of its own, within
-- so many nestings and with no follow, items of which the values are built.
pub record RowMeans {R : Type 0} (starts : List Start) (built : PlainItems → R → Type 0) (t : Tape)
    (from to depth : ℕ) (x : R) : Type 0 where
  pub nodes : DocNodes
  pub found : PlainItems
  pub nestings : ℕ
  pub events : docs_from t from ≡ map Some (events_of_nodes nodes) ++ docs_from t to
  pub means : (table : List PlainShape) (ids : List ℕ) (root : DocNode) → AreShapesIn starts table ids
      → MeanRow table root ids nodes found nestings 0
  pub within : nestings ≤ depth
  pub value : built found x

-- what is read from a place on, of one type, goes on what was read so far
abbrev pub ElementsFront : {T : Type 0} → Start → (PlainData → T → Type 0) → Tape → (from place depth : ℕ) → List T
    → Type 0
ElementsFront {T} start built t from place depth xs =
    (more to : ℕ) (ys : List T) → RowMeans (replicate more start) (BuiltItems built) t place to depth ys
    → RowMeans (replicate (length xs + more) start) (BuiltItems built) t from to depth (xs ++ ys)

-- What is read of a node of a tape: a value of data that the node means.
use Rattle.std.specs.Prelude.{ℕ, ◌≡◌, ◌≤◌, ◌+◌, List, [], ◌∷◌, ◌++◌, map, true, false, Some, Ok}
use Rattle.yaml_base.specs.DocTree.{DocNode, DocNodes, DocPairs, events_of, events_of_nodes, events_of_pairs}
use Rattle.yaml_base.specs.PlainDocEvent.{PlainDocEvent, a_scalar}
use Rattle.yaml_base.specs.PlainEvent.{PlainScalar}
use Rattle.yaml_shape.specs.PlainData.{PlainData, PlainItems, PlainEntries, no_entries, entry}
use Rattle.yaml_shape.specs.PlainShape.{PlainShape, shape_at, seq_shape, map_shape, option_shape}
use Rattle.yaml_meaning.specs.Handing.{is_content}
use Rattle.yaml_meaning.specs.Meaning.{Means, MeanEach, MeanPairs}
use Rattle.yaml_meaning.specs.Presence.{is_absent}
use Rattle.yaml_meaning.specs.ScalarShapes.{scalar_answer}
use Rattle.yaml_tape.specs.OnDocs.{docs_from}
use Rattle.yaml_tape.specs.declared.tape.Tape.{Tape}
use Rattle.yaml_types.specs.BuiltParts.{BuiltItems}

-- a scalar stands in the place, which gives this data under the shape
abbrev pub ScalarGives : Tape → (place : ℕ) → PlainShape → PlainData → Type 0
ScalarGives t place s v = (w : PlainScalar) × (docs_from t place ≡ Some (a_scalar w) ∷ docs_from t (place + 1))
    × (scalar_answer s false w ≡ Ok v)

-- a scalar in the place stands for nothing
abbrev pub IsNothing : Tape → (place : ℕ) → Type 0
IsNothing t place = (w : PlainScalar) × (docs_from t place ≡ Some (a_scalar w) ∷ docs_from t (place + 1))
    × (is_absent false w ≡ true)

-- what begins in the place is the content of an optional
abbrev pub BeginsContent : Tape → (place : ℕ) → Type 0
BeginsContent t place = (d : PlainDocEvent) × (docs_from t place ≡ Some d ∷ docs_from t (place + 1))
    × (is_content false d ≡ true)

-- which shapes of a table are those of a type
abbrev pub Shaped : Type 1
Shaped = List PlainShape → PlainShape → Type 0

-- The node between two places of the tape means, under each shape of the type, within so many nestings and with no
-- follow, data of which the value is built.
pub record NodeMeans {T : Type 0} (shaped : Shaped) (built : PlainData → T → Type 0) (t : Tape) (from to depth : ℕ)
    (x : T) : Type 0 where
  pub node : DocNode
  pub found : PlainData
  pub nestings : ℕ
  pub events : docs_from t from ≡ map Some (events_of node) ++ docs_from t to
  pub means : (table : List PlainShape) (s : PlainShape) (root : DocNode) → shaped table s
      → Means table root s node false found nestings 0
  pub within : nestings ≤ depth
  pub value : built found x

-- the same of nodes, one after another
pub record ItemsMean {T : Type 0} (shaped : Shaped) (built : PlainData → T → Type 0) (t : Tape) (from to depth : ℕ)
    (xs : List T) : Type 0 where
  pub nodes : DocNodes
  pub found : PlainItems
  pub nestings : ℕ
  pub events : docs_from t from ≡ map Some (events_of_nodes nodes) ++ docs_from t to
  pub means : (table : List PlainShape) (s : PlainShape) (root : DocNode) → shaped table s
      → MeanEach table root s nodes found nestings 0
  pub within : nestings ≤ depth
  pub value : BuiltItems built found xs

-- the values of keys and values, in order
abbrev pub BuiltPairs : {K V : Type 0} → (PlainData → K → Type 0) → (PlainData → V → Type 0) → PlainEntries
    → List (K × V) → Type 0
BuiltPairs key value no_entries [] = Unit {0}
BuiltPairs key value (entry k v es) (x ∷ xs) = key k x.0 × value v x.1 × BuiltPairs key value es xs
BuiltPairs key value _ _ = ⊥

-- the same of keys and values, one after another
pub record PairsMean {K V : Type 0} (key_shaped value_shaped : Shaped) (key : PlainData → K → Type 0)
    (value : PlainData → V → Type 0) (t : Tape) (from to depth : ℕ) (xs : List (K × V)) : Type 0 where
  pub pairs : DocPairs
  pub found : PlainEntries
  pub nestings : ℕ
  pub events : docs_from t from ≡ map Some (events_of_pairs pairs) ++ docs_from t to
  pub means : (table : List PlainShape) (s r : PlainShape) (root : DocNode) → key_shaped table s → value_shaped table r
      → MeanPairs table root s r pairs found nestings 0
  pub within : nestings ≤ depth
  pub values : BuiltPairs key value found xs

-- what is read from a place on goes on what was read so far
abbrev pub ItemsFront : {T : Type 0} → Shaped → (PlainData → T → Type 0) → Tape → (from place depth : ℕ) → List T
    → Type 0
ItemsFront {T} shaped built t from place depth xs =
    (to : ℕ) (ys : List T) → ItemsMean shaped built t place to depth ys
    → ItemsMean shaped built t from to depth (xs ++ ys)

abbrev pub PairsFront : {K V : Type 0} → Shaped → Shaped → (PlainData → K → Type 0) → (PlainData → V → Type 0) → Tape
    → (from place depth : ℕ) → List (K × V) → Type 0
PairsFront {K} {V} ks vs key value t from place depth xs =
    (to : ℕ) (ys : List (K × V)) → PairsMean ks vs key value t place to depth ys
    → PairsMean ks vs key value t from to depth (xs ++ ys)

-- the shapes of sequences, mappings and optionals
abbrev pub SeqShaped : Shaped → Shaped
SeqShaped part table s = (id : ℕ) × (r : PlainShape) × (s ≡ seq_shape id) × (shape_at table id ≡ Some r) × part table r

abbrev pub MapShaped : Shaped → Shaped → Shaped
MapShaped key value table s = (a : ℕ) × (b : ℕ) × (k : PlainShape) × (v : PlainShape) × (s ≡ map_shape a b)
    × (shape_at table a ≡ Some k) × (shape_at table b ≡ Some v) × key table k × value table v

abbrev pub OptionShaped : Shaped → Shaped
OptionShaped part table s = (id : ℕ) × (r : PlainShape) × (s ≡ option_shape id) × (shape_at table id ≡ Some r)
    × part table r

-- The data of values that have parts is of their shape.
use Rattle.std.specs.Prelude.{◌≡◌, List, [], ◌∷◌, map, true, ◌&&◌, Option, Some, None, IfSome, All, refl}
use Rattle.std.proofs.Common.{◌∙◌}
use Rattle.std.proofs.lemmas.List.Elements.{All-head, All-tail}
use Rattle.yaml_shape.specs.DataView.{items_of, entries_of}
use Rattle.yaml_shape.specs.PlainData.{PlainData}
use Rattle.yaml_shape.specs.HasShape.{all_have, HasShape}
use Rattle.yaml_types.specs.Start.{Start, IsClosed, option_start, seq_start, map_start}
use Rattle.yaml_types.specs.PartShapes.{entries_match}
use Rattle.yaml_types.specs.ShapeLaws.{none_has, some_has, seq_has, map_has}
use Rattle.yaml_types.specs.WrittenParts.{option_written, seq_written, map_written, PairsKeep}

-- the data of each value of a type is of its shape
abbrev pub AreOfShape : {T : Type 0} → Start → (T → Type 0) → (T → PlainData) → Type 0
AreOfShape {T} s kept written = (x : T) → kept x → HasShape s.0 s.1 (written x)

-- optionals
pub option_of_shape : {T : Type 0} (s : Start) (kept : T → Type 0) (written : T → PlainData) → IsClosed s
    → AreOfShape s kept written → (x : Option T) → IfSome x kept
    → HasShape (option_start s).0 (option_start s).1 (option_written written x)
option_of_shape s kept written c law None k = none_has s
option_of_shape s kept written c law (Some x) k = some_has s c (written x) ∙ law x k

all_written : {T : Type 0} (s : Start) (kept : T → Type 0) (written : T → PlainData) → AreOfShape s kept written
    → (xs : List T) → All kept xs → all_have s.0 s.1 (items_of (map written xs)) ≡ true
all_written s kept written law [] k = refl
all_written s kept written law (x ∷ xs) k =
    λ t. law x (All-head kept x xs k) t && all_written s kept written law xs (All-tail kept x xs k) t

-- sequences
pub seq_of_shape : {T : Type 0} (s : Start) (kept : T → Type 0) (written : T → PlainData) → IsClosed s
    → AreOfShape s kept written → (xs : List T) → All kept xs
    → HasShape (seq_start s).0 (seq_start s).1 (seq_written written xs)
seq_of_shape s kept written c law xs k =
    seq_has s c (items_of (map written xs)) ∙ all_written s kept written law xs k

pairs_written : {K V : Type 0} (a b : Start) (key : K → Type 0) (value : V → Type 0) (one : K → PlainData)
    (two : V → PlainData) → AreOfShape a key one → AreOfShape b value two → (pairs : List (K × V))
    → PairsKeep key value pairs → entries_match a b (entries_of (map (λ p. (one p.0, two p.1)) pairs)) ≡ true
pairs_written a b key value one two left right [] k = refl
pairs_written {K} {V} a b key value one two left right (p ∷ ps) k =
    let here = All-head (λ (p : K × V). key p.0 × value p.1) p ps k in
    λ t. left p.0 here.0 t && (right p.1 here.1 t && pairs_written a b key value one two left right ps
    (All-tail (λ (p : K × V). key p.0 × value p.1) p ps k) t)

-- maps
pub map_of_shape : {K V : Type 0} (a b : Start) (key : K → Type 0) (value : V → Type 0) (one : K → PlainData)
    (two : V → PlainData) → IsClosed a → IsClosed b → AreOfShape a key one → AreOfShape b value two
    → (pairs : List (K × V)) → PairsKeep key value pairs
    → HasShape (map_start a b).0 (map_start a b).1 (map_written one two pairs)
map_of_shape a b key value one two c d left right pairs k =
    map_has a b c d (entries_of (map (λ p. (one p.0, two p.1)) pairs))
    ∙ pairs_written a b key value one two left right pairs k

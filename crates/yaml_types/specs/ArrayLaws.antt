-- Arrays: their shapes are closed, their data is of those, and they are equal again where their elements are.
use Rattle.std.specs.Prelude.{◌≡◌, ℕ, List, [], ◌∷◌, map, length, replicate, Bool, true, ◌&&◌, All, refl}
use Rattle.std.specs.Cmp.Lexicographic.{pointwise}
use Rattle.std.proofs.Common.{subst}
use Rattle.std.proofs.lemmas.List.Elements.{All-replicate, All-head, All-tail}
use Rattle.yaml_shape.specs.DataView.{items_of}
use Rattle.yaml_shape.specs.PlainData.{PlainData}
use Rattle.yaml_shape.specs.HasShape.{HasShape}
use Rattle.yaml_shape.specs.EqualData.{EqualData}
use Rattle.yaml_types.specs.Start.{Start, IsClosed, array_start}
use Rattle.yaml_types.specs.StartLaws.{closed_tuple}
use Rattle.yaml_types.specs.PartShapes.{items_match}
use Rattle.yaml_types.specs.BuiltParts.{BuiltItems}
use Rattle.yaml_types.specs.RefusalParts.{RefusedItems}
use Rattle.yaml_types.specs.Rows.{BuiltElements, RefusedElements}
use Rattle.yaml_types.specs.WrittenParts.{array_written}
use Rattle.yaml_types.specs.WrittenLaws.{AreOfShape}
use Rattle.yaml_types.specs.StructLaws.{row_of_shape}
use Rattle.yaml_types.specs.ReturnLaws.{AreReturned, AreAccepted, items_returned, items_accepted}
use Rattle.yaml_types.specs.RowReturns.{elements_returned, elements_accepted}

-- so many of a closed type
pub copies_closed : (count : ℕ) (s : Start) → IsClosed s → All IsClosed (replicate count s)
copies_closed count s c = All-replicate IsClosed count s c

-- arrays of a type
pub closed_array : (count : ℕ) (s : Start) → IsClosed s → IsClosed (array_start count s)
closed_array count s c = closed_tuple (replicate count s) (copies_closed count s c)

module _ {T : Type 0} (s : Start) (kept : T → Type 0) (written : T → PlainData) where
  copies_match : AreOfShape s kept written → (xs : List T) → All kept xs
      → items_match (replicate (length xs) s) (items_of (map written xs)) ≡ true
  copies_match law [] k = refl
  copies_match law (x ∷ xs) k = λ t. law x (All-head kept x xs k) t && copies_match law xs (All-tail kept x xs k) t

-- the data of an array is of its shape
pub array_of_shape : {T : Type 0} (count : ℕ) (s : Start) (kept : T → Type 0) (written : T → PlainData) → IsClosed s
    → AreOfShape s kept written → (xs : List T) → (length xs ≡ count) × All kept xs
    → HasShape (array_start count s).0 (array_start count s).1 (array_written written xs)
array_of_shape count s kept written c law xs k =
    row_of_shape (replicate count s) (copies_closed count s c) (items_of (map written xs))
    (subst (λ n. items_match (replicate n s) (items_of (map written xs)) ≡ true) k.0
    (copies_match s kept written law xs k.1))

-- of equal data an equal array is built
pub array_returned : {T : Type 0} (kept : T → Type 0) (written : T → PlainData) (built : PlainData → T → Type 0)
    (eq : T → T → Bool) → AreReturned kept written built eq → (xs ys : List T) (d : PlainData) → All kept xs
    → EqualData (array_written written xs) d → BuiltElements (BuiltItems built) d ys → pointwise eq xs ys ≡ true
array_returned kept written built eq law =
    elements_returned (λ xs. items_of (map written xs)) (All kept) (BuiltItems built) (pointwise eq)
    (items_returned kept written built eq law)

-- equal data is not refused
pub array_accepted : {T : Type 0} (written : T → PlainData) (refused : PlainData → List ℕ → Type 0)
    (built : PlainData → T → Type 0) → AreAccepted written refused → (xs : List T) (d : PlainData) (message : List ℕ)
    → EqualData (array_written written xs) d → RefusedElements (RefusedItems built refused) d message → ⊥
array_accepted written refused built law =
    elements_accepted (λ xs. items_of (map written xs)) (RefusedItems built refused)
    (items_accepted written refused built law)

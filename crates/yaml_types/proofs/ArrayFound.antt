-- Data of the shape of an array is as many elements of one type; and where the type is too large, the array is.
use Rattle.std.proofs.Common.{◌≡◌, ◌≤◌, ◌<◌, ℕ, zero, suc, List, [], ◌∷◌, length, ◌&&◌, true, refl}
use Rattle.std.proofs.Common.{ap, arith}
use Rattle.std.specs.Prelude.{Vec, IsTrue, replicate}
use Rattle.std.specs.declared.alloc.Global.{Global}
use Rattle.yaml_tree.specs.TakeOut.{from_false, and_left, and_right}
use Rattle.yaml_shape.specs.PlainData.{PlainData, PlainItems, no_items, item}
use Rattle.yaml_shape.specs.HasShape.{HasShape, has_shape, all_have}
use Rattle.yaml_shape.specs.Join.{IsTooLarge}
use Rattle.yaml_shape.specs.DataView.{data_of, items_view}
use Rattle.yaml_shape.specs.declared.data.Data.{Data}
use Rattle.yaml_shape.specs.declared.data.Data as code
use Rattle.yaml_shape.specs.declared.fault.SchemaFault.{SchemaFault}
use Rattle.yaml_shape.proofs.PartLaws.{larger}
use Rattle.yaml_types.specs.Start.{Start, IsClosed, array_start}
use Rattle.yaml_types.specs.PartShapes.{items_match}
use Rattle.yaml_types.specs.BuiltParts.{BuiltItems}
use Rattle.yaml_types.specs.Rows.{total}
use Rattle.yaml_types.specs.ArrayLaws.{copies_closed}
use Rattle.yaml_types.proofs.FoundLaws.{parts_found}
use Rattle.yaml_types.proofs.StructFound.{tuple_too_large}

-- items of one type, so many, are all of its shape
all_of_one : (count : ℕ) (s : Start) (ds : PlainItems) → items_match (replicate count s) ds ≡ true
    → all_have s.0 s.1 ds ≡ true
all_of_one zero s no_items h = refl
all_of_one zero s (item d ds) h = from_false h
all_of_one (suc n) s no_items h = from_false h
all_of_one (suc n) s (item d ds) h =
    λ t. and_left (has_shape s.0 s.1 d) _ h t && all_of_one n s ds (and_right (has_shape s.0 s.1 d) _ h) t

-- as many values are built of them
as_many : {T : Type 0} (built : PlainData → T → Type 0) (count : ℕ) (s : Start) (ds : PlainItems) (xs : List T)
    → items_match (replicate count s) ds ≡ true → BuiltItems built ds xs → length xs ≡ count
as_many built zero s no_items [] h b = refl
as_many built zero s no_items (x ∷ xs) h b = absurd b
as_many built zero s (item d ds) xs h b = from_false h
as_many built (suc n) s no_items xs h b = from_false h
as_many built (suc n) s (item d ds) [] h b = absurd b
as_many built (suc n) s (item d ds) (x ∷ xs) h b =
    ap suc (as_many built n s ds xs (and_right (has_shape s.0 s.1 d) _ h) b.1)

-- data of the shape of an array is items that are all of the shape of its type
pub array_found : (count : ℕ) (s : Start) → IsClosed s → (found : Data) (items : Vec Data Global)
    → found ≡ code.Tuple items → HasShape (array_start count s).0 (array_start count s).1 (data_of found)
    → IsTrue (all_have s.0 s.1 (items_view items.items))
array_found count s c found items is h =
    all_of_one count s (items_view items.items)
    (parts_found (replicate count s) (copies_closed count s c) found items is h)

-- of which as many values are built as the array has places
pub array_filled : {T : Type 0} (built : PlainData → T → Type 0) (count : ℕ) (s : Start) → IsClosed s → (found : Data)
    (items : Vec Data Global) (xs : List T) → found ≡ code.Tuple items
    → HasShape (array_start count s).0 (array_start count s).1 (data_of found)
    → BuiltItems built (items_view items.items) xs → length xs ≡ count
array_filled built count s c found items xs is h b =
    as_many built count s (items_view items.items) xs
    (parts_found (replicate count s) (copies_closed count s c) found items is h) b

one_of_many : (count i : ℕ) (s : Start) → i < count → length s.0 ≤ total (replicate count s)
one_of_many zero i s lt = absurd (omega (arith, lt))
one_of_many (suc n) i s lt = omega arith

-- where the type of an array that has an element is too large, the array is
pub array_too_large : (fault : SchemaFault) (count i : ℕ) (s : Start) → i < count → IsTooLarge (length s.0) fault
    → IsTooLarge (length (array_start count s).0) fault
array_too_large fault count i s lt h =
    tuple_too_large fault (replicate count s)
    (larger fault (length s.0) (total (replicate count s)) (one_of_many count i s lt) h)

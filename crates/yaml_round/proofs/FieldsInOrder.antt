-- Fields that are read in the order in which they are declared.
use Rattle.std.specs.Prelude.{true, map, set, Ok}
use Rattle.std.proofs.Common.{◌≡◌, List, [], ◌∷◌, ◌++◌, length, Option, Some, None, refl, ap}
use Rattle.yaml_shape.specs.PlainData.{PlainData, struct_data}
use Rattle.yaml_shape.specs.PlainShape.{PlainShape}
use Rattle.yaml_shape.specs.DataView.{items_of}
use Rattle.yaml_meaning.specs.Fields.{Fields, Slots, is_free, all_fields, struct_of}

-- the place behind what was read is free
pub free_behind : (front more : Slots) → is_free (front ++ None ∷ more) (length front) ≡ true
free_behind [] more = refl
free_behind (s ∷ front) more = free_behind front more

-- and what is put there stands behind it
pub put_behind : (front more : Slots) (s v : Option PlainData)
    → set (front ++ s ∷ more) (length front) v ≡ (front ++ v ∷ []) ++ more
put_behind [] more s v = refl
put_behind (t ∷ front) more s v = ap (λ l. t ∷ l) (put_behind front more s v)

-- all fields that were read are there
all_read : (table : List PlainShape) (fields : Fields) (vs : List PlainData) → length vs ≡ length fields
    → all_fields table fields (map (λ v. Some v) vs) ≡ Ok vs
all_read table [] [] h = refl
all_read table [] (v ∷ vs) h = absurd cc
all_read table (f ∷ fields) [] h = absurd cc
all_read table (f ∷ fields) (v ∷ vs) h = rw (all_read table fields vs cc) refl

-- so the struct is that of their data
pub struct_read : (table : List PlainShape) (fields : Fields) (vs : List PlainData) → length vs ≡ length fields
    → struct_of table fields (map (λ v. Some v) vs) ≡ Ok (struct_data (items_of vs))
struct_read table fields vs h = rw (all_read table fields vs h) refl

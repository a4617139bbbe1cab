-- Data of the shape of a struct is its fields; and the schemas of structs, as the code joins them.
use Rattle.std.proofs.Common.{◌≡◌, ◌≢◌, ◌+◌, ℕ, List, [], ◌∷◌, ◌++◌, length, Bool, true, false, Some, refl, rules}
use Rattle.std.proofs.Common.{sym, ◌∙◌, ap, All, arith, length-append}
use Rattle.std.specs.Prelude.{Vec, IsTrue, Result, Ok, Err, IfErr}
use Rattle.std.specs.declared.alloc.Global.{Global}
use Rattle.yaml_shape.specs.PlainShape.{PlainShape, row_shape, fields_shape, unnamed, of_struct, shape_at}
use Rattle.yaml_shape.specs.PlainData.{PlainData, struct_data}
use Rattle.yaml_shape.specs.HasShape.{HasShape, has_shape}
use Rattle.yaml_shape.specs.Validity.{HasDistinctNames}
use Rattle.yaml_shape.specs.Join.{joined_all, starts_behind, named_behind, IsTooLarge, IsNotAdded}
use Rattle.yaml_shape.specs.DataView.{data_of, items_view}
use Rattle.yaml_shape.specs.declared.data.Data.{Data, the_lemmas}
use Rattle.yaml_shape.specs.declared.data.Data as code
use Rattle.yaml_shape.specs.declared.shape.ShapeId.{ShapeId}
use Rattle.yaml_shape.specs.declared.fault.SchemaFault.{SchemaFault}
use Rattle.yaml_shape.specs.declared.fault.SchemaFault.TheVariants.{OutsideTable, OptionCycle, NameTwice, TooManyShapes}
use Rattle.yaml_shape.specs.declared.fault.SchemaFault.TheVariants.{Memory}
use Rattle.yaml_shape.proofs.PartLaws.{larger}
use Rattle.yaml_types.specs.Start.{Start, IsClosed, tuple_start}
use Rattle.yaml_types.specs.PartShapes.{items_match}
use Rattle.yaml_types.specs.Rows.{total, struct_start, all_distinct}
use Rattle.yaml_types.specs.StructLaws.{struct_start_has, distinct_struct, length-row}

-- a table with its number, as plain parts
abbrev pub Part : Type 0
Part = List PlainShape × ShapeId

last_shape : (shapes : List PlainShape) (shape : PlainShape)
    → shape_at (shapes ++ shape ∷ []) (length shapes) ≡ Some shape
last_shape [] shape = refl
last_shape (s ∷ shapes) shape = last_shape shapes shape

abbrev is_struct : PlainData → Bool
is_struct (struct_data ds) = true
is_struct _ = false

found_struct : (shapes : List PlainShape) (strict : Bool) (name : List ℕ) (fields : List (List ℕ × ℕ)) (d : PlainData)
    → HasShape (shapes ++ fields_shape strict (of_struct name) fields ∷ []) (length shapes) d → IsTrue (is_struct d)
found_struct shapes strict name fields (struct_data ds) h = refl
found_struct shapes strict name fields _ h = let e = rw last_shape at h in cc

by_struct : (found : Data) → IsTrue (is_struct (data_of found))
    → ((fields : Vec Data Global) → found ≢ code.Struct fields) → ⊥
by_struct found h other = search (rules, the_lemmas)

-- a struct is one
pub not_struct : (shapes : List PlainShape) (strict : Bool) (name : List ℕ) (fields : List (List ℕ × ℕ))
    (found : Data)
    → HasShape (shapes ++ fields_shape strict (of_struct name) fields ∷ []) (length shapes) (data_of found)
    → ((fields : Vec Data Global) → found ≢ code.Struct fields) → ⊥
not_struct shapes strict name fields found h other =
    by_struct found (found_struct shapes strict name fields (data_of found) h) other

-- a struct as plain data
pub data_of-Struct : (fields : Vec Data Global) → data_of (code.Struct fields) ≡ struct_data (items_view fields.items)
data_of-Struct fields = search (rules, the_lemmas)

-- its fields are of their shapes
pub fields_found : (strict : Bool) (name : List ℕ) (names : List (List ℕ)) (parts : List Start)
    → length names ≡ length parts → All IsClosed parts → (found : Data) (fields : Vec Data Global)
    → found ≡ code.Struct fields
    → HasShape (struct_start strict name names parts).0 (struct_start strict name names parts).1 (data_of found)
    → IsTrue (items_match parts (items_view fields.items))
fields_found strict name names parts same c found fields is h =
    sym (struct_start_has strict name names parts same c (items_view fields.items))
    ∙ (ap (has_shape (struct_start strict name names parts).0 (struct_start strict name names parts).1)
    (sym (ap data_of is ∙ data_of-Struct fields)) ∙ h)

pub one_refused : (fault : SchemaFault) (size more : ℕ) (shape : PlainShape) → more ≡ size + 1 → HasDistinctNames shape
    → IsNotAdded size shape fault → IsTooLarge more fault
one_refused (OutsideTable n) size more shape e distinct h = h
one_refused (OptionCycle n) size more shape e distinct h = h
one_refused (NameTwice n) size more shape e distinct h = h.2 distinct
one_refused TooManyShapes size more shape e distinct h = omega (arith, e, h)
one_refused Memory size more shape e distinct h = tt

-- a struct with distinct names is refused only for its size
pub struct_refused : (r : Result Part SchemaFault) (strict : Bool) (name : List ℕ) (names : List (List ℕ))
    (parts : List Start) → length names ≡ length parts → all_distinct names ≡ true
    → IfErr r (IsNotAdded (length (joined_all [] parts))
    (fields_shape strict (of_struct name) (named_behind 0 names parts)))
    → IfErr r (IsTooLarge (length (struct_start strict name names parts).0))
struct_refused (Ok a) strict name names parts same e h = tt
struct_refused (Err fault) strict name names parts same e h =
    one_refused fault (length (joined_all [] parts)) (length (struct_start strict name names parts).0)
    (fields_shape strict (of_struct name) (named_behind 0 names parts))
    (length-append (joined_all [] parts) (fields_shape strict (of_struct name) (named_behind 0 names parts) ∷ []))
    (distinct_struct strict name names parts same e) h

-- where one type of a row is too large, the struct is
pub row_too_large : (fault : SchemaFault) (strict : Bool) (name : List ℕ) (names : List (List ℕ)) (parts : List Start)
    → IsTooLarge (total parts) fault → IsTooLarge (length (struct_start strict name names parts).0) fault
row_too_large fault strict name names parts h =
    let size : length (struct_start strict name names parts).0 ≡ length (joined_all [] parts) + 1 =
    length-append (joined_all [] parts) (fields_shape strict (of_struct name) (named_behind 0 names parts) ∷ []) in
    let row : length (joined_all [] parts) ≡ 0 + total parts = length-row [] parts in
    larger fault (total parts) (length (struct_start strict name names parts).0) (omega (arith, size, row)) h

-- where one type of a row is too large, the tuple is
pub tuple_too_large : (fault : SchemaFault) (parts : List Start) → IsTooLarge (total parts) fault
    → IsTooLarge (length (tuple_start parts).0) fault
tuple_too_large fault parts h =
    let size : length (tuple_start parts).0 ≡ length (joined_all [] parts) + 1 =
    length-append (joined_all [] parts) (row_shape unnamed (starts_behind 0 parts) ∷ []) in
    let row : length (joined_all [] parts) ≡ 0 + total parts = length-row [] parts in
    larger fault (total parts) (length (tuple_start parts).0) (omega (arith, size, row)) h

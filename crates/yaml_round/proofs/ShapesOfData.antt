-- Which shape data has: what the test of each kind of data says of the shape.
use Rattle.std.specs.Prelude.{Bool, true, ◌⊎◌, slice_get}
use Rattle.std.proofs.Common.{◌≡◌, ℕ, ℤ, List, Option, Some, None, refl, inl, inr}
use Rattle.yaml_shape.specs.HasShape.{has_shape, passes, is_any, is_bool, is_char, takes_signed, takes_unsigned}
use Rattle.yaml_shape.specs.HasShape.{is_text}
use Rattle.yaml_shape.specs.HasShape.{on_option, is_unit, on_newtype, on_seq, on_tuple, on_map, on_struct}
use Rattle.yaml_shape.specs.HasShape.{on_variant, is_ignored, is_unit_data}
use Rattle.yaml_shape.specs.PlainData.{PlainData, any_data, bool_data, char_data, signed_data, unsigned_data, text_data}
use Rattle.yaml_shape.specs.PlainData.{bytes_data, none_data, some_data, unit_data, newtype_data, seq_data, tuple_data}
use Rattle.yaml_shape.specs.PlainData.{map_data, struct_data, variant_data, ignored_data}
use Rattle.yaml_shape.specs.PlainShape.{IntegerType, PlainShape, any_shape, bool_shape, char_shape, integer_shape}
use Rattle.yaml_shape.specs.PlainShape.{str_shape, identifier_shape, option_shape, unit_shape, unit_struct_shape}
use Rattle.yaml_shape.specs.PlainShape.{newtype_shape, seq_shape, row_shape, map_shape, fields_shape, enum_shape}
use Rattle.yaml_shape.specs.PlainShape.{ignored_shape, Owner, of_struct, shape_at, PlainVariant}
use Rattle.yaml_shape.specs.Validity.{numbers_of}
use Rattle.yaml_shape.specs.Held.{is_table_shape}

-- what passes a test is there
pub passes_there : {A : Type 0} (o : Option A) (test : A → Bool) → passes o test ≡ true
    → (x : A) × (o ≡ Some x) × (test x ≡ true)
passes_there None test h = absurd cc
passes_there (Some x) test h = (x, refl, h)

-- the shape of data is in the table
pub shape_there : (t : List PlainShape) (id : ℕ) (d : PlainData) → has_shape t id d ≡ true
    → (s : PlainShape) × (shape_at t id ≡ Some s)
shape_there t id d h = found d h
  where
    from : (test : PlainShape → Bool) → passes (shape_at t id) test ≡ true
        → (s : PlainShape) × (shape_at t id ≡ Some s)
    from test h = let p = passes_there (shape_at t id) test h in (p.0, p.1)

    found : (d : PlainData) → has_shape t id d ≡ true → (s : PlainShape) × (shape_at t id ≡ Some s)
    found (any_data v) h = from _ h
    found (bool_data b) h = from _ h
    found (char_data c) h = from _ h
    found (signed_data z) h = from _ h
    found (unsigned_data n) h = from _ h
    found (text_data lent text) h = from _ h
    found (bytes_data bytes) h = from _ h
    found none_data h = from _ h
    found (some_data d) h = from _ h
    found unit_data h = from _ h
    found (newtype_data d) h = from _ h
    found (seq_data ds) h = from _ h
    found (tuple_data ds) h = from _ h
    found (map_data es) h = from _ h
    found (struct_data ds) h = from _ h
    found (variant_data place d) h = from _ h
    found ignored_data h = from _ h

-- the shape that passes the test of a kind of data
pub any_is : (s : PlainShape) → is_any s ≡ true → s ≡ any_shape
any_is any_shape h = refl
any_is _ h = absurd cc

pub bool_is : (s : PlainShape) → is_bool s ≡ true → s ≡ bool_shape
bool_is bool_shape h = refl
bool_is _ h = absurd cc

pub char_is : (s : PlainShape) → is_char s ≡ true → s ≡ char_shape
char_is char_shape h = refl
char_is _ h = absurd cc

pub signed_is : (z : ℤ) (s : PlainShape) → takes_signed z s ≡ true
    → (i : IntegerType) × (s ≡ integer_shape i) × (takes_signed z (integer_shape i) ≡ true)
signed_is z (integer_shape i) h = (i, refl, h)
signed_is z _ h = absurd cc

pub unsigned_is : (n : ℕ) (s : PlainShape) → takes_unsigned n s ≡ true
    → (i : IntegerType) × (s ≡ integer_shape i) × (takes_unsigned n (integer_shape i) ≡ true)
unsigned_is n (integer_shape i) h = (i, refl, h)
unsigned_is n _ h = absurd cc

pub text_is : (s : PlainShape) → is_text s ≡ true → (s ≡ str_shape) ⊎ (s ≡ identifier_shape)
text_is str_shape h = inl refl
text_is identifier_shape h = inr refl
text_is _ h = absurd cc

pub option_is : (test : ℕ → Bool) (s : PlainShape) → on_option test s ≡ true
    → (c : ℕ) × (s ≡ option_shape c) × (test c ≡ true)
option_is test (option_shape c) h = (c, refl, h)
option_is test _ h = absurd cc

pub unit_is : (s : PlainShape) → is_unit s ≡ true
    → (s ≡ unit_shape) ⊎ ((name : List ℕ) × (s ≡ unit_struct_shape name))
unit_is unit_shape h = inl refl
unit_is (unit_struct_shape name) h = inr (name, refl)
unit_is _ h = absurd cc

pub newtype_is : (test : ℕ → Bool) (s : PlainShape) → on_newtype test s ≡ true
    → (name : List ℕ) × (c : ℕ) × (s ≡ newtype_shape name c) × (test c ≡ true)
newtype_is test (newtype_shape name c) h = (name, c, refl, h)
newtype_is test _ h = absurd cc

pub seq_is : (test : ℕ → Bool) (s : PlainShape) → on_seq test s ≡ true
    → (c : ℕ) × (s ≡ seq_shape c) × (test c ≡ true)
seq_is test (seq_shape c) h = (c, refl, h)
seq_is test _ h = absurd cc

pub row_is : (test : List ℕ → Bool) (s : PlainShape) → on_tuple test s ≡ true
    → (owner : Owner) × (ids : List ℕ) × (s ≡ row_shape owner ids) × (test ids ≡ true)
row_is test (row_shape owner ids) h = (owner, ids, refl, h)
row_is test _ h = absurd cc

pub map_is : (test : ℕ → ℕ → Bool) (s : PlainShape) → on_map test s ≡ true
    → (key : ℕ) × (value : ℕ) × (s ≡ map_shape key value) × (test key value ≡ true)
map_is test (map_shape key value) h = (key, value, refl, h)
map_is test _ h = absurd cc

-- the shape of fields in a table is that of a struct
pub struct_is : (test : List ℕ → Bool) (s : PlainShape) → is_table_shape s ≡ true → on_struct test s ≡ true
    → (strict : Bool) × (name : List ℕ) × (fields : List (List ℕ × ℕ))
    × (s ≡ fields_shape strict (of_struct name) fields) × (test (numbers_of fields) ≡ true)
struct_is test (fields_shape strict (of_struct name) fields) k h = (strict, name, fields, refl, h)
struct_is test (fields_shape strict owner fields) k h = absurd cc
struct_is test _ k h = absurd cc

pub variant_is : (place : ℕ) (test : PlainVariant → Bool) (s : PlainShape) → on_variant place test s ≡ true
    → (name : List ℕ) × (variants : List (List ℕ × PlainVariant)) × (s ≡ enum_shape name variants)
    × (passes (slice_get variants place) (λ v. test v.1) ≡ true)
variant_is place test (enum_shape name variants) h = (name, variants, refl, h)
variant_is place test _ h = absurd cc

pub ignored_is : (s : PlainShape) → is_ignored s ≡ true → s ≡ ignored_shape
ignored_is ignored_shape h = refl
ignored_is _ h = absurd cc

pub unit_data_is : (d : PlainData) → is_unit_data d ≡ true → d ≡ unit_data
unit_data_is unit_data h = refl
unit_data_is _ h = absurd cc

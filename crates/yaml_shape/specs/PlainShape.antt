-- Shapes without where they lie in memory, and the table that they form.
use Rattle.std.specs.Prelude.{ℕ, List, Bool, Option, Some, slice_get}

-- the integers that a shape may ask for
pub data IntegerType : Type 0 where
  i8 : IntegerType
  i16 : IntegerType
  i32 : IntegerType
  i64 : IntegerType
  i128 : IntegerType
  isize : IntegerType
  u8 : IntegerType
  u16 : IntegerType
  u32 : IntegerType
  u64 : IntegerType
  u128 : IntegerType
  usize : IntegerType

-- the content of a variant; of fields with names it is known whether others are a fault
pub data PlainVariant : Type 0 where
  unit_variant : PlainVariant
  newtype_variant : (inner : ℕ) → PlainVariant
  tuple_variant : (items : List ℕ) → PlainVariant
  struct_variant : (strict : Bool) → (fields : List (List ℕ × ℕ)) → PlainVariant

-- whose elements or fields they are: nobody's by name, those of a struct, or those of a variant of an enum
pub data Owner : Type 0 where
  unnamed : Owner
  of_struct : (name : List ℕ) → Owner
  of_variant : (name : List ℕ) → (variant : List ℕ) → Owner

-- A shape, which names others by their places in the table; a name is its bytes. Elements in a row are those of a
-- tuple, where they are nobody's by name. Those of a variant, and its fields, are its content as it is read: no table
-- has them, and none has fields that are nobody's.
pub data PlainShape : Type 0 where
  any_shape : PlainShape
  bool_shape : PlainShape
  char_shape : PlainShape
  integer_shape : IntegerType → PlainShape
  str_shape : PlainShape
  identifier_shape : PlainShape
  bytes_shape : PlainShape
  option_shape : (content : ℕ) → PlainShape
  unit_shape : PlainShape
  unit_struct_shape : (name : List ℕ) → PlainShape
  newtype_shape : (name : List ℕ) → (inner : ℕ) → PlainShape
  seq_shape : (element : ℕ) → PlainShape
  row_shape : Owner → (items : List ℕ) → PlainShape
  map_shape : (key : ℕ) → (value : ℕ) → PlainShape
  fields_shape : (strict : Bool) → Owner → (fields : List (List ℕ × ℕ)) → PlainShape
  enum_shape : (name : List ℕ) → (variants : List (List ℕ × PlainVariant)) → PlainShape
  ignored_shape : PlainShape

-- the shape with a number
abbrev pub shape_at : List PlainShape → ℕ → Option PlainShape
shape_at shapes id = slice_get shapes id

-- the shape of the content of a variant of an enum, both with their names
abbrev pub content_shape : List PlainShape → (name : List ℕ) → (variant : List ℕ) → PlainVariant → Option PlainShape
content_shape shapes name variant unit_variant = Some unit_shape
content_shape shapes name variant (newtype_variant inner) = shape_at shapes inner
content_shape shapes name variant (tuple_variant items) = Some (row_shape (of_variant name variant) items)
content_shape shapes name variant (struct_variant strict fields) =
    Some (fields_shape strict (of_variant name variant) fields)

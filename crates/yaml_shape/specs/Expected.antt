-- The texts of what was expected, as faults print them.
use Rattle.std.specs.Prelude.{ℕ, List, length, ◌++◌, ◌==◌, if◌then◌else◌, codes, decimal}
use Rattle.yaml_shape.specs.PlainShape.{IntegerType, i8, i16, i32, i64, i128, isize, u8, u16, u32, u64, u128, usize}
use Rattle.yaml_shape.specs.PlainShape.{PlainShape, any_shape, bool_shape, char_shape, integer_shape, str_shape}
use Rattle.yaml_shape.specs.PlainShape.{identifier_shape, bytes_shape, option_shape, unit_shape, unit_struct_shape}
use Rattle.yaml_shape.specs.PlainShape.{newtype_shape, seq_shape, row_shape, map_shape, fields_shape, enum_shape}
use Rattle.yaml_shape.specs.PlainShape.{ignored_shape, Owner, unnamed, of_struct, of_variant}

-- an integer type's name
abbrev pub integer_text : IntegerType → List ℕ
integer_text i8 = codes "i8"
integer_text i16 = codes "i16"
integer_text i32 = codes "i32"
integer_text i64 = codes "i64"
integer_text i128 = codes "i128"
integer_text isize = codes "isize"
integer_text u8 = codes "u8"
integer_text u16 = codes "u16"
integer_text u32 = codes "u32"
integer_text u64 = codes "u64"
integer_text u128 = codes "u128"
integer_text usize = codes "usize"

-- a tuple of so many elements
abbrev pub tuple_text : ℕ → List ℕ
tuple_text count = codes "a tuple of size " ++ decimal count

-- a tuple variant of an enum
abbrev pub tuple_variant_text : List ℕ → List ℕ → List ℕ
tuple_variant_text name variant = codes "tuple variant " ++ (name ++ (codes "::" ++ variant))

-- a struct variant of an enum
abbrev pub struct_variant_text : List ℕ → List ℕ → List ℕ
struct_variant_text name variant = codes "struct variant " ++ (name ++ (codes "::" ++ variant))

-- elements in a row, of so many shapes
abbrev pub row_text : Owner → ℕ → List ℕ
row_text unnamed count = tuple_text count
row_text (of_struct name) count = codes "tuple struct " ++ name
row_text (of_variant name variant) count = tuple_variant_text name variant

-- fields with names
abbrev pub fields_text : Owner → List ℕ
fields_text unnamed = codes "struct"
fields_text (of_struct name) = codes "struct " ++ name
fields_text (of_variant name variant) = struct_variant_text name variant

-- what data of a shape is expected to be
abbrev pub expected_text : PlainShape → List ℕ
expected_text any_shape = codes "any YAML value"
expected_text bool_shape = codes "a boolean"
expected_text char_shape = codes "a character"
expected_text (integer_shape i) = integer_text i
expected_text str_shape = codes "a string"
expected_text identifier_shape = codes "field identifier"
expected_text bytes_shape = codes "byte array"
expected_text (option_shape content) = codes "option"
expected_text unit_shape = codes "unit"
expected_text (unit_struct_shape name) = codes "unit struct " ++ name
expected_text (newtype_shape name inner) = codes "tuple struct " ++ name
expected_text (seq_shape element) = codes "a sequence"
expected_text (row_shape owner items) = row_text owner (length items)
expected_text (map_shape key value) = codes "a map"
expected_text (fields_shape strict owner fields) = fields_text owner
expected_text (enum_shape name variants) = codes "enum " ++ name
expected_text ignored_shape = codes "anything at all"

-- so many elements
abbrev pub elements_text : ℕ → List ℕ
elements_text count = decimal count ++ (if count == 1 then codes " element" else codes " elements")

-- where a node has more elements than its shape: so many
abbrev pub sequence_text : ℕ → List ℕ
sequence_text count = codes "sequence of " ++ elements_text count

-- where a node has fewer elements than its tuple struct: so many
abbrev pub tuple_struct_text : List ℕ → ℕ → List ℕ
tuple_struct_text name count = codes "tuple struct " ++ (name ++ (codes " with " ++ elements_text count))

-- where a node has fewer elements than its tuple variant: so many
abbrev pub tuple_variant_with_text : List ℕ → List ℕ → ℕ → List ℕ
tuple_variant_with_text name variant count =
    codes "tuple variant " ++ (name ++ (codes "::" ++ (variant ++ (codes " with " ++ elements_text count))))

-- where a node has fewer elements than the so many of its row
abbrev pub few_text : Owner → ℕ → List ℕ
few_text unnamed count = tuple_text count
few_text (of_struct name) count = tuple_struct_text name count
few_text (of_variant name variant) count = tuple_variant_with_text name variant count

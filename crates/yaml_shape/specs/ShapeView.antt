-- The plain shape of a shape.
use Rattle.std.specs.Prelude.{ℕ, List, map, true, false, String, string_bytes}
use Rattle.std.specs.declared.alloc.Global.{Global}
use Rattle.yaml_shape.specs.PlainShape.{i8, i16, i32, i64, i128, isize, u8, u16, u32, u64, u128, usize, PlainShape}
use Rattle.yaml_shape.specs.PlainShape.{any_shape, bool_shape, char_shape, integer_shape, str_shape, identifier_shape}
use Rattle.yaml_shape.specs.PlainShape.{bytes_shape, option_shape, unit_shape, unit_struct_shape, newtype_shape}
use Rattle.yaml_shape.specs.PlainShape.{seq_shape, row_shape, map_shape, fields_shape, enum_shape, ignored_shape}
use Rattle.yaml_shape.specs.PlainShape.{unnamed, of_struct, PlainVariant, unit_variant, newtype_variant, tuple_variant}
use Rattle.yaml_shape.specs.PlainShape.{struct_variant}
use Rattle.yaml_shape.specs.declared.shape.ShapeId.{ShapeId}
use Rattle.yaml_shape.specs.declared.shape.Shape.{Shape}
use Rattle.yaml_shape.specs.declared.shape.Shape.TheVariants as shape
use Rattle.yaml_shape.specs.declared.shape.VariantShape.{VariantShape}
use Rattle.yaml_shape.specs.declared.shape.VariantShape.TheVariants as variant

-- the numbers of a list of shapes
abbrev pub ids_of : List ShapeId → List ℕ
ids_of = map (λ id. id.0)

-- the bytes of a field's name, and the number of its shape
abbrev pub field_of : String Global × ShapeId → List ℕ × ℕ
field_of f = (string_bytes f.0, f.1.0)

-- the fields with their names' bytes
abbrev pub fields_of : List (String Global × ShapeId) → List (List ℕ × ℕ)
fields_of = map field_of

-- the plain content of a variant
abbrev pub content_of : VariantShape → PlainVariant
content_of variant.Unit = unit_variant
content_of (variant.Newtype inner) = newtype_variant inner.0
content_of (variant.Tuple items) = tuple_variant (ids_of items.items)
content_of (variant.Struct fields) = struct_variant false (fields_of fields.items)
content_of (variant.StrictStruct fields) = struct_variant true (fields_of fields.items)

-- the bytes of a variant's name, and its plain content
abbrev pub variant_of : String Global × VariantShape → List ℕ × PlainVariant
variant_of v = (string_bytes v.0, content_of v.1)

-- the variants with their names' bytes
abbrev pub variants_of : List (String Global × VariantShape) → List (List ℕ × PlainVariant)
variants_of = map variant_of

-- the plain shape of a shape
abbrev pub shape_of : Shape → PlainShape
shape_of shape.Any = any_shape
shape_of shape.Bool = bool_shape
shape_of shape.Char = char_shape
shape_of shape.I8 = integer_shape i8
shape_of shape.I16 = integer_shape i16
shape_of shape.I32 = integer_shape i32
shape_of shape.I64 = integer_shape i64
shape_of shape.I128 = integer_shape i128
shape_of shape.Isize = integer_shape isize
shape_of shape.U8 = integer_shape u8
shape_of shape.U16 = integer_shape u16
shape_of shape.U32 = integer_shape u32
shape_of shape.U64 = integer_shape u64
shape_of shape.U128 = integer_shape u128
shape_of shape.Usize = integer_shape usize
shape_of shape.Str = str_shape
shape_of shape.Identifier = identifier_shape
shape_of shape.Bytes = bytes_shape
shape_of (shape.Option content) = option_shape content.0
shape_of shape.Unit = unit_shape
shape_of (shape.UnitStruct name) = unit_struct_shape (string_bytes name)
shape_of (shape.Newtype name inner) = newtype_shape (string_bytes name) inner.0
shape_of (shape.Seq element) = seq_shape element.0
shape_of (shape.Tuple items) = row_shape unnamed (ids_of items.items)
shape_of (shape.TupleStruct name items) = row_shape (of_struct (string_bytes name)) (ids_of items.items)
shape_of (shape.Map key value) = map_shape key.0 value.0
shape_of (shape.Struct name fields) = fields_shape false (of_struct (string_bytes name)) (fields_of fields.items)
shape_of (shape.StrictStruct name fields) = fields_shape true (of_struct (string_bytes name)) (fields_of fields.items)
shape_of (shape.Enum name variants) = enum_shape (string_bytes name) (variants_of variants.items)
shape_of shape.IgnoredAny = ignored_shape

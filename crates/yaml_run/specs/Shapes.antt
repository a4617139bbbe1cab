-- The shapes with a name, and the table that each stands for.
use Rattle.std.specs.Prelude.{ℕ, ◌≢◌, List, [], ◌∷◌, codes, Bool, true, false}
use Rattle.yaml_shape.specs.PlainShape.{i64, u64, usize, PlainShape, any_shape, bool_shape, integer_shape, str_shape}
use Rattle.yaml_shape.specs.PlainShape.{option_shape, seq_shape, row_shape, map_shape, fields_shape, enum_shape}
use Rattle.yaml_shape.specs.PlainShape.{ignored_shape, unnamed, of_struct, unit_variant, newtype_variant}
use Rattle.yaml_run.specs.declared.shapes.Named.{Named}
use Rattle.yaml_run.specs.declared.shapes.Named.TheVariants as named

-- the name of a shape
abbrev pub name_of : Named → List ℕ
name_of named.Bool = codes "bool"
name_of named.I64 = codes "i64"
name_of named.Str = codes "str"
name_of named.List = codes "list"
name_of named.Map = codes "map"
name_of named.Any = codes "any"
name_of named.Ignored = codes "ignored"
name_of named.U64 = codes "u64"
name_of named.Option = codes "option"
name_of named.Pair = codes "pair"
name_of named.Basic = codes "basic"
name_of named.Strict = codes "strict"
name_of named.Outer = codes "outer"

-- no shape has this name
abbrev pub IsNoName : List ℕ → Type 0
IsNoName name = (shape : Named) → name_of shape ≢ name

-- the fields of Basic
abbrev pub fields_of_basic : List (List ℕ × ℕ)
fields_of_basic = (codes "v", 1) ∷ (codes "w", 1) ∷ []

-- Basic, in which other fields may stand or may not
abbrev pub shape_of_basic : Bool → PlainShape
shape_of_basic strict = fields_shape strict (of_struct (codes "Basic")) fields_of_basic

-- Outer, whose variant holds Inner
abbrev pub shape_of_outer : PlainShape
shape_of_outer = enum_shape (codes "Outer") ((codes "Inner", newtype_variant 1) ∷ [])

-- Inner, of which one variant holds a sequence, and the other nothing
abbrev pub shape_of_inner : PlainShape
shape_of_inner = enum_shape (codes "Inner") ((codes "Variant", newtype_variant 2) ∷ (codes "Plain", unit_variant) ∷ [])

-- the shape with a name
abbrev pub first_shape : Named → PlainShape
first_shape named.Bool = bool_shape
first_shape named.I64 = integer_shape i64
first_shape named.Str = str_shape
first_shape named.List = seq_shape 1
first_shape named.Map = map_shape 1 2
first_shape named.Any = any_shape
first_shape named.Ignored = ignored_shape
first_shape named.U64 = integer_shape u64
first_shape named.Option = option_shape 1
first_shape named.Pair = row_shape unnamed (1 ∷ 1 ∷ [])
first_shape named.Basic = shape_of_basic false
first_shape named.Strict = shape_of_basic true
first_shape named.Outer = shape_of_outer

-- the table of a shape, which is its first one
abbrev pub table_of : Named → List PlainShape
table_of named.Bool = bool_shape ∷ []
table_of named.I64 = integer_shape i64 ∷ []
table_of named.Str = str_shape ∷ []
table_of named.List = seq_shape 1 ∷ integer_shape i64 ∷ []
table_of named.Map = map_shape 1 2 ∷ str_shape ∷ integer_shape i64 ∷ []
table_of named.Any = any_shape ∷ []
table_of named.Ignored = ignored_shape ∷ []
table_of named.U64 = integer_shape u64 ∷ []
table_of named.Option = option_shape 1 ∷ integer_shape i64 ∷ []
table_of named.Pair = row_shape unnamed (1 ∷ 1 ∷ []) ∷ integer_shape i64 ∷ []
table_of named.Basic = shape_of_basic false ∷ bool_shape ∷ []
table_of named.Strict = shape_of_basic true ∷ bool_shape ∷ []
table_of named.Outer = shape_of_outer ∷ shape_of_inner ∷ seq_shape 3 ∷ integer_shape usize ∷ []

-- Tables of shapes joined into one.
use Rattle.std.specs.Prelude.{ℕ, ◌≡◌, ◌+◌, ◌<◌, List, [], ◌∷◌, ◌++◌, map, length}
use Rattle.std.specs.List.{zip}
use Rattle.yaml_shape.specs.PlainShape.{PlainShape, any_shape, bool_shape, char_shape, integer_shape, str_shape}
use Rattle.yaml_shape.specs.PlainShape.{identifier_shape, bytes_shape, option_shape, unit_shape, unit_struct_shape}
use Rattle.yaml_shape.specs.PlainShape.{newtype_shape, seq_shape, row_shape, map_shape, fields_shape, enum_shape}
use Rattle.yaml_shape.specs.PlainShape.{ignored_shape, PlainVariant, unit_variant, newtype_variant, tuple_variant}
use Rattle.yaml_shape.specs.PlainShape.{struct_variant}
use Rattle.yaml_shape.specs.ShapeView.{ids_of}
use Rattle.yaml_shape.specs.Validity.{HasDistinctNames}
use Rattle.yaml_shape.specs.declared.shape.ShapeId.{ShapeId}
use Rattle.yaml_shape.specs.declared.fault.SchemaFault.{SchemaFault}
use Rattle.yaml_shape.specs.declared.fault.SchemaFault.TheVariants.{OutsideTable, OptionCycle, NameTwice, TooManyShapes}
use Rattle.yaml_shape.specs.declared.fault.SchemaFault.TheVariants.{Memory}

-- numbers, each raised by so much
abbrev pub raised_ids : ℕ → List ℕ → List ℕ
raised_ids by = map (λ id. by + id)

-- fields, the number of each raised by so much
abbrev pub raised_fields : ℕ → List (List ℕ × ℕ) → List (List ℕ × ℕ)
raised_fields by = map (λ f. (f.0, by + f.1))

-- the content of a variant, each number that it names raised by so much
abbrev pub raised_content : ℕ → PlainVariant → PlainVariant
raised_content by unit_variant = unit_variant
raised_content by (newtype_variant inner) = newtype_variant (by + inner)
raised_content by (tuple_variant items) = tuple_variant (raised_ids by items)
raised_content by (struct_variant strict fields) = struct_variant strict (raised_fields by fields)

-- variants, each number that they name raised by so much
abbrev pub raised_variants : ℕ → List (List ℕ × PlainVariant) → List (List ℕ × PlainVariant)
raised_variants by = map (λ v. (v.0, raised_content by v.1))

-- a shape, each number that it names raised by so much
abbrev pub raised : ℕ → PlainShape → PlainShape
raised by any_shape = any_shape
raised by bool_shape = bool_shape
raised by char_shape = char_shape
raised by (integer_shape i) = integer_shape i
raised by str_shape = str_shape
raised by identifier_shape = identifier_shape
raised by bytes_shape = bytes_shape
raised by (option_shape content) = option_shape (by + content)
raised by unit_shape = unit_shape
raised by (unit_struct_shape name) = unit_struct_shape name
raised by (newtype_shape name inner) = newtype_shape name (by + inner)
raised by (seq_shape element) = seq_shape (by + element)
raised by (row_shape owner items) = row_shape owner (raised_ids by items)
raised by (map_shape key value) = map_shape (by + key) (by + value)
raised by (fields_shape strict owner fields) = fields_shape strict owner (raised_fields by fields)
raised by (enum_shape name variants) = enum_shape name (raised_variants by variants)
raised by ignored_shape = ignored_shape

-- the second table behind the first, with the numbers in it raised past the first
abbrev pub joined_tables : List PlainShape → List PlainShape → List PlainShape
joined_tables first second = first ++ map (raised (length first)) second

-- tables, each with a shape where it starts, behind a first one
abbrev pub joined_all : List PlainShape → List (List PlainShape × ℕ) → List PlainShape
joined_all first [] = first
joined_all first (part ∷ parts) = joined_all (joined_tables first part.0) parts

-- where each of these tables starts in the table that they are joined to behind so many shapes
abbrev pub starts_behind : ℕ → List (List PlainShape × ℕ) → List ℕ
starts_behind size [] = []
starts_behind size (part ∷ parts) = (size + part.1) ∷ starts_behind (size + length part.0) parts

-- tables with their starts, as plain parts
abbrev pub parts_of : List (List PlainShape × ShapeId) → List (List PlainShape × ℕ)
parts_of = map (λ p. (p.0, p.1.0))

-- the start of the table is in it
abbrev pub StartsWithin : List PlainShape × ℕ → Type 0
StartsWithin part = part.1 < length part.0

-- the answer is this table with this shape behind it, and the number of that shape
pub record IsWith (shapes : List PlainShape) (shape : PlainShape) (answer : List PlainShape × ShapeId) : Type 0 where
  pub table : answer.0 ≡ shapes ++ shape ∷ []
  pub start : answer.1.0 ≡ length shapes

-- the answer is this table with these in a row behind it, and where each starts there
pub record IsRow (first : List PlainShape) (parts : List (List PlainShape × ℕ)) (table : List PlainShape)
    (starts : List ShapeId) : Type 0 where
  pub table_is : table ≡ joined_all first parts
  pub starts_are : ids_of starts ≡ starts_behind (length first) parts

-- names, each with the number where the part in its place starts behind so many shapes
abbrev pub named_behind : ℕ → List (List ℕ) → List (List PlainShape × ℕ) → List (List ℕ × ℕ)
named_behind size names parts = zip names (starts_behind size parts)

-- a join of so many shapes is refused: for being more than 4,096 shapes, or for want of memory
abbrev pub IsTooLarge : ℕ → SchemaFault → Type 0
IsTooLarge size (OutsideTable number) = ⊥
IsTooLarge size (OptionCycle number) = ⊥
IsTooLarge size (NameTwice number) = ⊥
IsTooLarge size TooManyShapes = 4096 < size
IsTooLarge size Memory = Unit {0}

-- A shape is not added behind so many: there is no room for it, or, where there is, it has a name twice and is told by
-- its number; or memory runs out.
abbrev pub IsNotAdded : ℕ → PlainShape → SchemaFault → Type 0
IsNotAdded size shape (OutsideTable number) = ⊥
IsNotAdded size shape (OptionCycle number) = ⊥
IsNotAdded size shape (NameTwice number) = (size < 4096) × (number ≡ size) × (HasDistinctNames shape → ⊥)
IsNotAdded size shape TooManyShapes = 4096 < size + 1
IsNotAdded size shape Memory = Unit {0}

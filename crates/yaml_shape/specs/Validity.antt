-- Which tables of shapes are schemas.
use Rattle.std.specs.Prelude.{ℕ, zero, suc, ◌≡◌, ◌≢◌, ◌<◌, ◌≤◌, List, [], ◌∷◌, map, length, All, AllPairs}
use Rattle.std.specs.Prelude.{Option, Some, None}
use Rattle.std.specs.List.{flat_map}
use Rattle.std.specs.Option.{option_and_then}
use Rattle.yaml_shape.specs.PlainShape.{PlainShape, any_shape, bool_shape, char_shape, integer_shape, str_shape}
use Rattle.yaml_shape.specs.PlainShape.{identifier_shape, bytes_shape, option_shape, unit_shape, unit_struct_shape}
use Rattle.yaml_shape.specs.PlainShape.{newtype_shape, seq_shape, row_shape, map_shape, fields_shape, enum_shape}
use Rattle.yaml_shape.specs.PlainShape.{ignored_shape, shape_at, PlainVariant, unit_variant, newtype_variant}
use Rattle.yaml_shape.specs.PlainShape.{tuple_variant, struct_variant}

-- the names of fields or variants
abbrev pub names_of : {A : Type 0} → List (List ℕ × A) → List (List ℕ)
names_of = map (λ e. e.0)

-- the numbers that fields name
abbrev pub numbers_of : List (List ℕ × ℕ) → List ℕ
numbers_of = map (λ e. e.1)

-- the numbers that the content of a variant names
abbrev pub named_in : PlainVariant → List ℕ
named_in unit_variant = []
named_in (newtype_variant inner) = inner ∷ []
named_in (tuple_variant items) = items
named_in (struct_variant strict fields) = numbers_of fields

-- the numbers that a shape names
abbrev pub named : PlainShape → List ℕ
named any_shape = []
named bool_shape = []
named char_shape = []
named (integer_shape i) = []
named str_shape = []
named identifier_shape = []
named bytes_shape = []
named (option_shape content) = content ∷ []
named unit_shape = []
named (unit_struct_shape name) = []
named (newtype_shape name inner) = inner ∷ []
named (seq_shape element) = element ∷ []
named (row_shape owner items) = items
named (map_shape key value) = key ∷ value ∷ []
named (fields_shape strict owner fields) = numbers_of fields
named (enum_shape name variants) = flat_map (λ v. named_in v.1) variants
named ignored_shape = []

-- each number that the shape names is below the size
abbrev pub NamesWithin : ℕ → PlainShape → Type 0
NamesWithin size shape = All (λ id. id < size) (named shape)

-- each number that a shape of the list names is below the size
abbrev pub AllNameWithin : ℕ → List PlainShape → Type 0
AllNameWithin size shapes = All (NamesWithin size) shapes

-- no two names of the list are the same
abbrev pub AreDistinct : List (List ℕ) → Type 0
AreDistinct names = AllPairs (λ a b. a ≢ b) names

-- the content of a variant has no name twice
abbrev pub IsDistinctInside : PlainVariant → Type 0
IsDistinctInside unit_variant = Unit {0}
IsDistinctInside (newtype_variant inner) = Unit {0}
IsDistinctInside (tuple_variant items) = Unit {0}
IsDistinctInside (struct_variant strict fields) = AreDistinct (names_of fields)

-- a struct's fields have distinct names; so have an enum's variants, and the fields of each
abbrev pub HasDistinctNames : PlainShape → Type 0
HasDistinctNames (fields_shape strict owner fields) = AreDistinct (names_of fields)
HasDistinctNames (enum_shape name variants) = AreDistinct (names_of variants) × All (λ v. IsDistinctInside v.1) variants
HasDistinctNames _ = Unit {0}

-- where an optional leads: the number of its content
abbrev pub optional_content : PlainShape → Option ℕ
optional_content (option_shape content) = Some content
optional_content _ = None

-- where one step through an optional leads from a shape
abbrev pub step_from : List PlainShape → ℕ → Option ℕ
step_from shapes id = option_and_then optional_content (shape_at shapes id)

-- where so many steps through optionals lead from a shape
abbrev pub walk : List PlainShape → ℕ → ℕ → Option ℕ
walk shapes zero id = Some id
walk shapes (suc n) id = option_and_then (walk shapes n) (step_from shapes id)

-- a walk through optionals alone leads from the shape back to it
abbrev pub IsCycle : List PlainShape → ℕ → Type 0
IsCycle shapes id = (n : ℕ) × (0 < n) × (walk shapes n id ≡ Some id)

-- At most 4,096 shapes name only each other, have no name twice, and no walk through optionals comes back to its start.
pub record IsValidSchema (shapes : List PlainShape) : Type 0 where
  pub few : length shapes ≤ 4096
  pub closed : AllNameWithin (length shapes) shapes
  pub distinct : All HasDistinctNames shapes
  pub ending : (id : ℕ) → IsCycle shapes id → ⊥

-- Rows of types, and the structs that are made of them.
use Rattle.std.specs.Prelude.{ℕ, ◌≡◌, ◌+◌, List, [], ◌∷◌, Bool, true, not, ◌&&◌, ◌⊎◌, bytes_eq, length}
use Rattle.yaml_shape.specs.PlainShape.{fields_shape, of_struct}
use Rattle.yaml_shape.specs.PlainData.{PlainData, PlainItems, no_items, item, struct_data, tuple_data}
use Rattle.yaml_shape.specs.Join.{joined_all, named_behind}
use Rattle.yaml_types.specs.BuiltParts.{IsBuilt}
use Rattle.yaml_types.specs.Start.{Start, with_last_shape}

-- how many shapes the tables have together
abbrev pub total : List Start → ℕ
total [] = 0
total (s ∷ ss) = length s.0 + total ss

-- structs of this name, whose fields have these names and are of these types, their tables in a row
abbrev pub struct_start : (strict : Bool) → (name : List ℕ) → (names : List (List ℕ)) → List Start → Start
struct_start strict name names parts =
    with_last_shape (joined_all [] parts) (fields_shape strict (of_struct name) (named_behind 0 names parts))

-- the name is none of these
abbrev pub is_apart : List ℕ → List (List ℕ) → Bool
is_apart name [] = true
is_apart name (n ∷ names) = not (bytes_eq name n) && is_apart name names

-- no name is there twice
abbrev pub all_distinct : List (List ℕ) → Bool
all_distinct [] = true
all_distinct (name ∷ names) = is_apart name names && all_distinct names

-- the names are those of so many fields: there are as many, and no name is there twice
pub record FieldNamesFit (names : List (List ℕ)) (width : ℕ) : Type 0 where
  pub distinct : all_distinct names ≡ true
  pub as_many : length names ≡ width

-- items, and others behind them
abbrev pub items_then : PlainItems → PlainItems → PlainItems
items_then no_items es = es
items_then (item d ds) es = item d (items_then ds es)

-- no item, and no value
abbrev pub BuiltNothing : {T : Type 0} → PlainItems → T → Type 0
BuiltNothing no_items x = Unit {0}
BuiltNothing _ x = ⊥

-- the value of the first item, and those of the others in a row
abbrev pub BuiltRow : {A R : Type 0} → (PlainData → A → Type 0) → (PlainItems → R → Type 0) → PlainItems → A × R
    → Type 0
BuiltRow first others (item d ds) x = first d x.0 × others ds x.1
BuiltRow first others no_items x = ⊥

-- no item is refused
abbrev pub NoneRefused : PlainItems → List ℕ → Type 0
NoneRefused ds message = ⊥

-- the first item is refused, or it is built and one of the others is refused
abbrev pub RefusedRow : {A : Type 0} → (PlainData → A → Type 0) → (PlainData → List ℕ → Type 0)
    → (PlainItems → List ℕ → Type 0) → PlainItems → List ℕ → Type 0
RefusedRow built first others (item d ds) message = first d message ⊎ (IsBuilt built d × others ds message)
RefusedRow built first others no_items message = ⊥

-- the values of a struct's fields, in a row
abbrev pub BuiltFields : {R : Type 0} → (PlainItems → R → Type 0) → PlainData → R → Type 0
BuiltFields row (struct_data ds) x = row ds x
BuiltFields row _ x = ⊥

-- a field of a struct is refused
abbrev pub RefusedFields : (PlainItems → List ℕ → Type 0) → PlainData → List ℕ → Type 0
RefusedFields row (struct_data ds) message = row ds message
RefusedFields row _ message = ⊥

-- the values of a tuple's elements, in a row
abbrev pub BuiltElements : {R : Type 0} → (PlainItems → R → Type 0) → PlainData → R → Type 0
BuiltElements row (tuple_data ds) x = row ds x
BuiltElements row _ x = ⊥

-- an element of a tuple is refused
abbrev pub RefusedElements : (PlainItems → List ℕ → Type 0) → PlainData → List ℕ → Type 0
RefusedElements row (tuple_data ds) message = row ds message
RefusedElements row _ message = ⊥

-- the data of the parts makes the value
abbrev pub BuiltOf : {P T : Type 0} → (PlainData → P → Type 0) → (P → T → Type 0) → PlainData → T → Type 0
BuiltOf {P} {T} built made d x = (p : P) × built d p × made p x

-- the data of the parts is refused, or the parts that are built of it are
abbrev pub RefusedOf : {P : Type 0} → (PlainData → P → Type 0) → (PlainData → List ℕ → Type 0)
    → (P → List ℕ → Type 0) → PlainData → List ℕ → Type 0
RefusedOf {P} built refused unmade d message = refused d message ⊎ ((p : P) × built d p × unmade p message)

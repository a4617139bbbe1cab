-- Why a table of shapes is refused.
use Rattle.std.specs.Prelude.{ℕ, ◌<◌, ◌≤◌, List, length, take, All, IfSome}
use Rattle.yaml_shape.specs.PlainShape.{PlainShape, shape_at}
use Rattle.yaml_shape.specs.Validity.{NamesWithin, AllNameWithin, HasDistinctNames, IsCycle}
use Rattle.yaml_shape.specs.declared.fault.SchemaFault.{SchemaFault}
use Rattle.yaml_shape.specs.declared.fault.SchemaFault.TheVariants.{OutsideTable, OptionCycle, NameTwice, TooManyShapes}
use Rattle.yaml_shape.specs.declared.fault.SchemaFault.TheVariants.{Memory}

-- the shape with this number isn't so, and each before it is
pub record IsFirstWithout (P : PlainShape → Type 0) (shapes : List PlainShape) (number : ℕ) : Type 0 where
  pub before : All P (take number shapes)
  pub without : IfSome (shape_at shapes number) (λ shape. P shape → ⊥)
  pub within : number < length shapes

-- the shape with this number names one outside the table, and none before it does
abbrev pub IsFirstOutside : List PlainShape → ℕ → Type 0
IsFirstOutside shapes number = IsFirstWithout (NamesWithin (length shapes)) shapes number

-- the shape with this number has a name twice, and none before it does
abbrev pub IsFirstRepeated : List PlainShape → ℕ → Type 0
IsFirstRepeated shapes number = IsFirstWithout HasDistinctNames shapes number

-- a walk through optionals leads from the shape with this number back to it, and from none before it
pub record IsFirstCycle (shapes : List PlainShape) (number : ℕ) : Type 0 where
  pub before : (id : ℕ) → id < number → IsCycle shapes id → ⊥
  pub cycle : IsCycle shapes number

-- the table has a name twice, and is else in order so far as that is looked at before
pub record IsRepeated (shapes : List PlainShape) (number : ℕ) : Type 0 where
  pub few : length shapes ≤ 4096
  pub closed : AllNameWithin (length shapes) shapes
  pub first : IsFirstRepeated shapes number

-- the table has a cycle of optionals, and is else in order
pub record IsCyclic (shapes : List PlainShape) (number : ℕ) : Type 0 where
  pub few : length shapes ≤ 4096
  pub closed : AllNameWithin (length shapes) shapes
  pub distinct : All HasDistinctNames shapes
  pub first : IsFirstCycle shapes number

-- the fault is the first that the table has in the order TooManyShapes, OutsideTable, NameTwice, OptionCycle, or want
-- of memory
abbrev pub IsRefused : List PlainShape → SchemaFault → Type 0
IsRefused shapes TooManyShapes = 4096 < length shapes
IsRefused shapes (OutsideTable number) = (length shapes ≤ 4096) × IsFirstOutside shapes number
IsRefused shapes (NameTwice number) = IsRepeated shapes number
IsRefused shapes (OptionCycle number) = IsCyclic shapes number
IsRefused shapes Memory = Unit {0}

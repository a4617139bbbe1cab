-- What the arguments of the program ask for.
use Rattle.std.specs.Prelude.{ℕ, ◌≡◌, ◌≤◌, List, [], ◌∷◌}
use Rattle.std.specs.Str.Parse.{IsNumeral, digits_value}
use Rattle.yaml_read.specs.TreeReader.{PlainLimits, default_limits}
use Rattle.yaml_run.specs.Shapes.{name_of}
use Rattle.yaml_run.specs.declared.shapes.Named.{Named}

-- decimal digits write this number; zeros may stand first
pub record Writes (digits : List ℕ) (number : ℕ) : Type 0 where
  pub numeral : IsNumeral 10 digits
  pub value : digits_value 10 digits ≡ number

-- two arguments write limits: at most 255 nestings, and at most 1,000 follows for each event
pub record WriteLimits (nesting follows : List ℕ) (limits : PlainLimits) : Type 0 where
  pub nestings : Writes nesting limits.nesting
  pub follows_each : Writes follows limits.follows
  pub shallow : limits.nesting ≤ 255
  pub few : limits.follows ≤ 1000

-- the arguments ask for a shape within limits: by its name, and by the limits behind it, if they aren't the default
pub data Ask (arguments : List (List ℕ)) (shape : Named) (limits : PlainLimits) : Type 0 where
  shape_alone : arguments ≡ name_of shape ∷ [] → limits ≡ default_limits → Ask arguments shape limits
  shape_within : (nesting follows : List ℕ) → arguments ≡ name_of shape ∷ nesting ∷ follows ∷ []
      → WriteLimits nesting follows limits → Ask arguments shape limits

-- the arguments ask for nothing that the program does
abbrev pub AskForNothing : List (List ℕ) → Type 0
AskForNothing arguments = (shape : Named) → (limits : PlainLimits) → ¬ (Ask arguments shape limits)

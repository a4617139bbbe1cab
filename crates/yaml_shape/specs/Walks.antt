-- Walks through optionals, one step from each shape at a time, and how long they are.
use Rattle.std.specs.Prelude.{ℕ, zero, suc, ◌≡◌, ◌≤◌, min, List, Option, Some, None, slice_get, unwrap_or}
use Rattle.yaml_shape.specs.PlainShape.{PlainShape}
use Rattle.yaml_shape.specs.Validity.{step_from, walk}

-- where steps lead from a shape, of a list that has it for each
abbrev pub led_from : List (Option ℕ) → ℕ → Option ℕ
led_from steps id = unwrap_or (slice_get steps id) None

-- where steps lead from where others have led to
abbrev pub led_on : List (Option ℕ) → Option ℕ → Option ℕ
led_on steps None = None
led_on steps (Some id) = led_from steps id

-- the list has for each shape where so many steps through optionals lead
abbrev pub AreWalks : List PlainShape → ℕ → List (Option ℕ) → Type 0
AreWalks shapes n steps = (id : ℕ) → led_from steps id ≡ walk shapes n id

-- the steps that a walk can take, by where the first leads
abbrev pub steps_by : (ℕ → ℕ) → Option ℕ → ℕ
steps_by f None = 0
steps_by f (Some id) = suc (f id)

-- how many of so many steps a walk can take from a shape
unfoldable pub steps_within : List PlainShape → ℕ → ℕ → ℕ
steps_within shapes zero id = 0
steps_within shapes (suc n) id = steps_by (steps_within shapes n) (step_from shapes id)

-- the rank of a shape: how many steps through optionals lead on from it, at most 4,096 in a schema
unfoldable pub rank : List PlainShape → ℕ → ℕ
rank shapes id = steps_within shapes 4097 id

-- the lesser of two numbers, or the one that is there
abbrev pub lesser : Option ℕ → Option ℕ → Option ℕ
lesser None b = b
lesser (Some a) None = Some a
lesser (Some a) (Some b) = Some (min a b)

-- the steps lead from some shape to this one, and from none to one before it
pub record IsLeastEnd (steps : List (Option ℕ)) (id : ℕ) : Type 0 where
  pub start : ℕ
  pub leads : led_from steps start ≡ Some id
  pub least : (other : ℕ) → (end : ℕ) → led_from steps other ≡ Some end → id ≤ end

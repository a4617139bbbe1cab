-- A table of one shape that names no other is refused only for want of memory.
use Rattle.std.proofs.Common.{◌≡◌, ◌<◌, ℕ, zero, suc, [], ◌∷◌, Some, None, refl, arith}
use Rattle.yaml_shape.specs.PlainShape.{PlainShape, any_shape, bool_shape, char_shape, integer_shape, str_shape}
use Rattle.yaml_shape.specs.PlainShape.{unit_shape}
use Rattle.yaml_shape.specs.Validity.{NamesWithin, HasDistinctNames, step_from, walk, optional_content}
use Rattle.yaml_shape.specs.SchemaRefusal.{IsRefused, IsFirstWithout}
use Rattle.yaml_shape.specs.Join.{IsTooLarge}
use Rattle.yaml_shape.specs.declared.fault.SchemaFault.{SchemaFault}
use Rattle.yaml_shape.specs.declared.fault.SchemaFault.TheVariants.{OutsideTable, OptionCycle, NameTwice, TooManyShapes}
use Rattle.yaml_shape.specs.declared.fault.SchemaFault.TheVariants.{Memory}
use Rattle.yaml_types.specs.Start.{IsLeaf}
use Rattle.yaml_types.specs.StartLaws.{names_nothing}

distinct : (shape : PlainShape) → IsLeaf shape → HasDistinctNames shape
distinct any_shape h = tt
distinct bool_shape h = tt
distinct char_shape h = tt
distinct (integer_shape i) h = tt
distinct str_shape h = tt
distinct unit_shape h = tt
distinct _ h = absurd h

ends : (shape : PlainShape) → IsLeaf shape → optional_content shape ≡ None
ends any_shape h = refl
ends bool_shape h = refl
ends char_shape h = refl
ends (integer_shape i) h = refl
ends str_shape h = refl
ends unit_shape h = refl
ends _ h = absurd h

-- a property of the only shape
only : (P : PlainShape → Type 0) (shape : PlainShape) (number : ℕ) → P shape → IsFirstWithout P (shape ∷ []) number → ⊥
only P shape zero h w = w.without h
only P shape (suc n) h w = let below : suc n < 1 = w.within in absurd (omega arith)

no_step : (shape : PlainShape) → IsLeaf shape → (id : ℕ) → step_from (shape ∷ []) id ≡ None
no_step shape h zero = ends shape h
no_step shape h (suc id) = refl

no_cycle : (shape : PlainShape) → IsLeaf shape → (id n : ℕ) → 0 < n → walk (shape ∷ []) n id ≡ Some id → ⊥
no_cycle shape h id zero some w = absurd (omega arith)
no_cycle shape h id (suc n) some w = let none : step_from (shape ∷ []) id ≡ None = no_step shape h id in
    let lost : None ≡ Some id = rw none at w in cc

-- why one shape alone is refused
pub leaf_refused : (shape : PlainShape) (fault : SchemaFault) → IsLeaf shape → IsRefused (shape ∷ []) fault
    → IsTooLarge 1 fault
leaf_refused shape (OutsideTable number) h r = only (NamesWithin 1) shape number (names_nothing shape h) r.1
leaf_refused shape (OptionCycle number) h r = no_cycle shape h number r.first.cycle.0 r.first.cycle.1 r.first.cycle.2
leaf_refused shape (NameTwice number) h r = only HasDistinctNames shape number (distinct shape h) r.first
leaf_refused shape TooManyShapes h r = r
leaf_refused shape Memory h r = tt

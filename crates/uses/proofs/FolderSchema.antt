-- The table of folders is refused only for want of memory.
use Rattle.std.proofs.Common.{◌≡◌, ◌<◌, ℕ, zero, suc, [], ◌∷◌, None, Some, refl, arith}
use Rattle.std.specs.Prelude.{codes}
use Rattle.yaml_shape.specs.Validity.{NamesWithin, HasDistinctNames, AreDistinct, step_from, walk}
use Rattle.yaml_shape.specs.SchemaRefusal.{IsRefused, IsFirstWithout}
use Rattle.yaml_shape.specs.Join.{IsTooLarge}
use Rattle.yaml_shape.specs.declared.fault.SchemaFault.{SchemaFault}
use Rattle.yaml_shape.specs.declared.fault.SchemaFault.TheVariants.{OutsideTable, OptionCycle, NameTwice, TooManyShapes}
use Rattle.yaml_shape.specs.declared.fault.SchemaFault.TheVariants.{Memory}
use Rattle.std.proofs.lemmas.List.Elements.{All-nil, All-cons}
use Rattle.uses.specs.Folders.{folder_start}

distinct : AreDistinct (codes "name" ∷ codes "folders" ∷ [])
distinct zero (suc zero) d lt within = λ e. cc
distinct zero zero d lt within = absurd (omega (arith, lt))
distinct (suc i) (suc zero) d lt within = absurd (omega (arith, lt))
distinct i zero d lt within = absurd (omega (arith, lt))
distinct i (suc (suc j)) d lt within = absurd (omega (arith, within))

within_table : (number : ℕ) → IsFirstWithout (NamesWithin 3) folder_start.0 number → ⊥
within_table zero w = w.without (All-nil (λ id. id < 3))
within_table (suc zero) w = w.without (All-cons (λ id. id < 3) 2 [] (omega arith) (All-nil (λ id. id < 3)))
within_table (suc (suc zero)) w =
    w.without (All-cons (λ id. id < 3) 0 (1 ∷ []) (omega arith)
    (All-cons (λ id. id < 3) 1 [] (omega arith) (All-nil (λ id. id < 3))))
within_table (suc (suc (suc n))) w = let below : suc (suc (suc n)) < 3 = w.within in absurd (omega arith)

named_once : (number : ℕ) → IsFirstWithout HasDistinctNames folder_start.0 number → ⊥
named_once zero w = w.without tt
named_once (suc zero) w = w.without tt
named_once (suc (suc zero)) w = w.without distinct
named_once (suc (suc (suc n))) w = let below : suc (suc (suc n)) < 3 = w.within in absurd (omega arith)

no_step : (id : ℕ) → step_from folder_start.0 id ≡ None
no_step zero = refl
no_step (suc zero) = refl
no_step (suc (suc zero)) = refl
no_step (suc (suc (suc id))) = refl

no_cycle : (id n : ℕ) → 0 < n → walk folder_start.0 n id ≡ Some id → ⊥
no_cycle id zero some w = absurd (omega arith)
no_cycle id (suc n) some w =
    let none : step_from folder_start.0 id ≡ None = no_step id in
    let lost : None ≡ Some id = rw none at w in cc

-- why the table of folders is refused
pub folder_refused : (fault : SchemaFault) → IsRefused folder_start.0 fault → IsTooLarge 3 fault
folder_refused (OutsideTable number) r = absurd (within_table number r.1)
folder_refused (OptionCycle number) r = absurd (no_cycle number r.first.cycle.0 r.first.cycle.1 r.first.cycle.2)
folder_refused (NameTwice number) r = absurd (named_once number r.first)
folder_refused TooManyShapes r = r
folder_refused Memory r = tt

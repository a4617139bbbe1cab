-- The short names that faults of a table had before, which are constants.
use Rattle.std.specs.Prelude.{◌≡◌}
use Rattle.std.proofs.Common.{refl}
use Rattle.yaml_shape.specs.declared.fault.SchemaFault.TheVariants.{Memory, TooManyShapes}
use Rattle.yaml_shape.specs.declared.fault.TheConstants.SchemaFault.{S4, S5}

-- `S4` and `S5` stand for their faults
pub short_names_have_their_faults : (S4 ≡ TooManyShapes) × (S5 ≡ Memory)
short_names_have_their_faults = (refl, refl)

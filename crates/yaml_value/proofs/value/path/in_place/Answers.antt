-- The number is what was parsed.
use Rattle.std.proofs.Common.{Err, Ok, refl}
use Rattle.yaml_value.proofs.value.path.in_place.Goals as goal

pub returns-in-Ok : goal.returns-in-Ok
returns-in-Ok c = (Ok c.in-Ok.place, c.in-Ok.ensures.value.0, c.at.ensures)

pub returns-in-Err : goal.returns-in-Err
returns-in-Err c = (Err tt, c.in-Err.ensures.value.0, refl)

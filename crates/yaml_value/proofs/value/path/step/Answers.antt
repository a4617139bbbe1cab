-- The key is looked for first.
use Rattle.std.proofs.Common.{None, Some, refl}
use Rattle.yaml_value.specs.View.{plain}
use Rattle.yaml_value.proofs.Paths.{leads_by}
use Rattle.yaml_value.proofs.value.path.step.Goals as goal

pub returns-in-Some : goal.returns-in-Some
returns-in-Some c =
    let v = plain c.args.from.now in
    let found = Some (plain c.in-Some.value.now) in
    leads_by c.args.part.now v found found c.in-Some.ensures.value refl

pub returns-in-None : goal.returns-in-None
returns-in-None c =
    let v = plain c.args.from.now in
    leads_by c.args.part.now v _ None c.in-None.ensures.value c.in_place.ensures

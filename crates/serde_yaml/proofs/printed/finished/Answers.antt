-- A refusal of the emitter names the place of an event.
use Rattle.std.proofs.Common.{◌≡◌, subst, sym}
use Rattle.yaml_base.specs.declared.error.Cause.{Cause}
use Rattle.serde_yaml.specs.Printed.{IsOutOfPlace, out_of_place}
use Rattle.serde_yaml.proofs.printed.finished.Goals as goal

is_out : (cause other : Cause) → cause ≡ other → IsOutOfPlace other → IsOutOfPlace cause
is_out cause other e h = subst (λ (x : Cause). IsOutOfPlace x) (sym e) h

pub returns-in-Err-clause-refused : goal.returns-in-Err-clause-refused
returns-in-Err-clause-refused c = λ known.
    let h = c.in-Err.ensures.refused known in is_out _ _ h.1 (out_of_place h.0)

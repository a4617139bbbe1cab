-- What the walk answers is what fits.
use Rattle.std.specs.Prelude.{false}
use Rattle.std.proofs.Common.{◌≡◌, sym, subst, ◌∙◌}
use Rattle.yaml_shape.specs.DataView.{data_of}
use Rattle.yaml_shape.specs.HasShape.{HasShape}
use Rattle.yaml_shape.specs.Held.{IsHeld}
use Rattle.yaml_shape.specs.TypedView.{content_in, id_in, schema_in}
use Rattle.yaml_round.specs.Survives.{survives}
use Rattle.yaml_round.proofs.SurvivesMeans.{survives_is_fits}
use Rattle.yaml_round.proofs.fit.fits.Goals as goal

pub returns : goal.returns
returns c =
    let is : c.survives.result
    ≡ survives (schema_in c.args.typed.now) (id_in c.args.typed.now).0 false c.args.limits.nesting
    (data_of (content_in c.args.typed.now)) = cc in
    let has : HasShape (schema_in c.args.typed.now) (id_in c.args.typed.now).0
    (data_of (content_in c.args.typed.now)) = rw c.content-content.ensures.content at c.content-content.ensures.typed in
    let held : IsHeld (data_of (content_in c.args.typed.now)) =
    rw c.content-content.ensures.content at c.data_is_held.ensures in
    let found = survives_is_fits (schema_in c.args.typed.now) c.args.limits.nesting (id_in c.args.typed.now).0
    (data_of (content_in c.args.typed.now)) has held in
    (λ h. found.0 (sym is ∙ h), λ fits. is ∙ found.1 fits)

-- Data of the shape is a variant, and its content is what that holds.
use Rattle.std.proofs.Common.{refl, sym, ◌∙◌}
use Rattle.yaml_types.proofs.EnumFound.{not_variant, held_found}
use Rattle.yaml_types.proofs.enums.EnumDeserialize.build.Goals as goal

pub build-requires : goal.build-requires
build-requires g c κs =
    let choice = g.met.F.Choice.ReadChoice c.lifetimes (assumption c) in (
      (refl, tt),
      held_found g.F.Variants.name g.F.Variants.names g.F.Choice.ReadChoice.contents
          (g.met.F.Variants.fits.as_many ∙ sym choice.as_wide) choice.closed c.args.found c.in-Variant.place
          c.in-Variant.content c.into_inner.result c.in-Variant.is c.into_inner.ensures c.requires,
    )

pub unreachable-requires : goal.unreachable-requires
unreachable-requires g c = not_variant _ _ _ c.args.found c.requires c.in_default.not-Variant

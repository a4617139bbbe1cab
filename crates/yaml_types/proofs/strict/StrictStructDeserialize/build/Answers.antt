-- Data of the shape is the fields, which are of their types.
use Rattle.std.proofs.Common.{◌≡◌, length, true, refl, sym, ◌∙◌, subst}
use Rattle.std.specs.Prelude.{IsTrue}
use Rattle.yaml_shape.specs.DataView.{items_view}
use Rattle.yaml_types.specs.PartShapes.{items_match}
use Rattle.yaml_types.proofs.StructFound.{not_struct, fields_found}
use Rattle.yaml_types.proofs.strict.StrictStructDeserialize.build.Goals as goal

pub build-requires : goal.build-requires
build-requires g c κs =
    let row = g.met.F.Types.ReadRow c.lifetimes (assumption c) in
    let same : length g.F.Fields.names ≡ length g.F.Types.ReadRow.starts =
    g.met.F.Fields.fits.as_many ∙ sym row.as_wide in (
      (refl, tt),
      subst (λ l. IsTrue (items_match g.F.Types.ReadRow.starts (items_view l))) (sym c.into_iter.ensures.rest)
          (fields_found true g.F.Fields.name g.F.Fields.names g.F.Types.ReadRow.starts same row.closed
          c.args.found c.in-Struct.items c.in-Struct.is c.requires),
    )

pub unreachable-requires : goal.unreachable-requires
unreachable-requires g c = not_struct _ _ _ _ c.args.found c.requires c.in_default.not-Struct

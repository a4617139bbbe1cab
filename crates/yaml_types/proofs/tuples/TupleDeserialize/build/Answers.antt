-- Data of the shape is the elements, which are of their types.
use Rattle.std.proofs.Common.{refl, sym, subst}
use Rattle.std.specs.Prelude.{IsTrue}
use Rattle.yaml_shape.specs.DataView.{items_view}
use Rattle.yaml_types.specs.PartShapes.{items_match}
use Rattle.yaml_types.proofs.FoundLaws.{not_tuple, parts_found}
use Rattle.yaml_types.proofs.tuples.TupleDeserialize.build.Goals as goal

pub build-requires : goal.build-requires
build-requires g c κs = (
  (refl, tt),
  subst (λ l. IsTrue (items_match g.R.ReadRow.starts (items_view l))) (sym c.into_iter.ensures.rest)
      (parts_found g.R.ReadRow.starts (g.met.R.ReadRow c.lifetimes (assumption c)).closed c.args.found
      c.in-Tuple.items c.in-Tuple.is c.requires),
)

pub unreachable-requires : goal.unreachable-requires
unreachable-requires g c = not_tuple _ _ c.args.found c.requires c.in_default.not-Tuple

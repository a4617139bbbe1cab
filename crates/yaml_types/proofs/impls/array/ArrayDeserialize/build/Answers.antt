-- Data of the shape is as many elements, each of the shape of the type.
use Rattle.std.proofs.Common.{refl, arith}
use Rattle.yaml_types.proofs.FoundLaws.{not_tuple}
use Rattle.yaml_types.proofs.ArrayFound.{array_found, array_filled}
use Rattle.yaml_types.proofs.impls.array.ArrayDeserialize.build.Goals as goal

pub build_items-requires : goal.build_items-requires
build_items-requires g c κs = (
  (refl, tt),
  array_found g.row.N g.T.Deserialize.start (g.met.T.Deserialize c.lifetimes (assumption c)).closed c.args.found
      c.in-Tuple.items c.in-Tuple.is c.requires,
)

pub unreachable-requires : goal.unreachable-requires
unreachable-requires g c = not_tuple _ _ c.args.found c.requires c.in_default.not-Tuple

pub unreachable-requires-in-Err-try_from : goal.unreachable-requires-in-Err-try_from
unreachable-requires-in-Err-try_from g c =
    c.in-Err-try_from.ensures.1 (omega (
      arith,
      c.in-Ok.values.ok,
      array_filled g.T.Deserialize.built g.row.N g.T.Deserialize.start
          (g.met.T.Deserialize c.lifetimes (assumption c)).closed c.args.found c.in-Tuple.items c.in-Ok.values.items
          c.in-Tuple.is c.requires c.in-Ok.ensures.ok,
    ))
